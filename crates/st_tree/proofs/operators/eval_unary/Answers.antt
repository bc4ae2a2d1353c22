use Rattle.std.proofs.Common.{arith}
use Rattle.std.proofs.lemmas.Grind.{common_steps}
use Rattle.st_tree.proofs.operators.eval_unary.Goals as goal

pub returns-in-Negate : goal.returns-in-Negate
returns-in-Negate c = grind (arith, common_steps)

pub returns-in-NegateTime : goal.returns-in-NegateTime
returns-in-NegateTime c = grind (arith, common_steps)
