use Rattle.std.proofs.Common.{arith}
use Rattle.std.proofs.lemmas.Grind.{common_steps}
use Rattle.st_blocks.proofs.levels.any_marked.Goals as goal

pub loop-w-preserved : goal.loop-w-preserved
loop-w-preserved c = grind (arith, common_steps)

pub returns-then-unwrap_or : goal.returns-then-unwrap_or
returns-then-unwrap_or c = grind (arith, common_steps)

pub returns : goal.returns
returns c = grind (arith, common_steps)
