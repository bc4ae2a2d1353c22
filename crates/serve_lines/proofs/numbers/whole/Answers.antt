use Rattle.std.proofs.Common.{arith}
use Rattle.std.proofs.lemmas.Grind.{common_steps}
use Rattle.serve_lines.proofs.numbers.whole.Goals as goal

pub overflow_sub-result : goal.overflow_sub-result
overflow_sub-result c = grind (arith, common_steps)

pub returns-in_ok-n : goal.returns-in_ok-n
returns-in_ok-n c = grind (arith, common_steps)
