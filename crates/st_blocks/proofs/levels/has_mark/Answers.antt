use Rattle.std.proofs.Common.{arith}
use Rattle.std.proofs.lemmas.Grind.{common_steps}
use Rattle.st_blocks.proofs.levels.has_mark.Goals as goal

pub returns-then-mark : goal.returns-then-mark
returns-then-mark c = grind (arith, common_steps)
