use Rattle.std.proofs.Common.{arith}
use Rattle.std.proofs.lemmas.Grind.{common_steps}
use Rattle.engine.proofs.engine.Engine.order.Goals as goal

pub returns-clause-plant : goal.returns-clause-plant
returns-clause-plant c = grind (arith, common_steps)
