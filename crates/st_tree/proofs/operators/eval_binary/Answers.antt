use Rattle.std.proofs.Common.{arith}
use Rattle.std.proofs.lemmas.Grind.{common_steps}
use Rattle.st_tree.proofs.operators.eval_binary.Goals as goal

pub returns-in-Multiply : goal.returns-in-Multiply
returns-in-Multiply c = grind (arith, common_steps)

pub returns-in-Subtract : goal.returns-in-Subtract
returns-in-Subtract c = grind (arith, common_steps)

pub returns-in-SubtractTime : goal.returns-in-SubtractTime
returns-in-SubtractTime c = grind (arith, common_steps)

pub returns-in-Add : goal.returns-in-Add
returns-in-Add c = grind (arith, common_steps)

pub returns-in-AddTime : goal.returns-in-AddTime
returns-in-AddTime c = grind (arith, common_steps)

pub overflow_mul-a : goal.overflow_mul-a
overflow_mul-a c = grind (arith, common_steps)
