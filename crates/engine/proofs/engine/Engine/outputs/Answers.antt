use Rattle.std.proofs.Common.{arith}
use Rattle.std.proofs.lemmas.Grind.{common_steps}
use Rattle.engine.proofs.engine.Engine.outputs.Goals as goal

pub returns-clause-lawful : goal.returns-clause-lawful
returns-clause-lawful c = grind (arith, common_steps)
