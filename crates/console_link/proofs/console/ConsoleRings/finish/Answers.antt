use Rattle.std.proofs.Common.{arith}
use Rattle.std.proofs.lemmas.Grind.{common_steps}
use Rattle.console_link.proofs.console.ConsoleRings.finish.Goals as goal

pub returns-in_err-orders-clause-rings : goal.returns-in_err-orders-clause-rings
returns-in_err-orders-clause-rings c = grind (arith, common_steps)

pub returns-in_err-orders-clause-seen : goal.returns-in_err-orders-clause-seen
returns-in_err-orders-clause-seen c = grind (arith, common_steps)

pub returns-clause-rings : goal.returns-clause-rings
returns-clause-rings c = grind (arith, common_steps)
