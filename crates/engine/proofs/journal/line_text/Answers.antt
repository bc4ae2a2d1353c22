use Rattle.std.proofs.Common.{arith}
use Rattle.std.proofs.lemmas.Grind.{common_steps}
use Rattle.engine.proofs.journal.line_text.Goals as goal

pub returns-in_ok-path-in-Fault : goal.returns-in_ok-path-in-Fault
returns-in_ok-path-in-Fault c = grind (arith, common_steps)

pub returns-in-Order : goal.returns-in-Order
returns-in-Order c = grind (arith, common_steps)

pub returns-in-Alarm : goal.returns-in-Alarm
returns-in-Alarm c = grind (arith, common_steps)
