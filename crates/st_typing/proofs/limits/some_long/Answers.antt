use Rattle.std.proofs.Common.{arith}
use Rattle.std.proofs.lemmas.Grind.{common_steps}
use Rattle.st_typing.proofs.limits.some_long.Goals as goal

pub loop-unit-preserved : goal.loop-unit-preserved
loop-unit-preserved c = grind (arith, common_steps)

pub returns-then-branch : goal.returns-then-branch
returns-then-branch c = grind (arith, common_steps)

pub returns : goal.returns
returns c = grind (arith, common_steps)
