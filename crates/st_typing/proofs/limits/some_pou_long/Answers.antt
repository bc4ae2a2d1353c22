use Rattle.std.proofs.Common.{arith}
use Rattle.std.proofs.lemmas.Grind.{common_steps}
use Rattle.st_typing.proofs.limits.some_pou_long.Goals as goal

pub loop-pou-preserved : goal.loop-pou-preserved
loop-pou-preserved c = grind (arith, common_steps)

pub returns-then-branch : goal.returns-then-branch
returns-then-branch c = grind (arith, common_steps)
