use Rattle.std.proofs.Common.{arith}
use Rattle.std.proofs.lemmas.Grind.{common_steps}
use Rattle.st_blocks.proofs.holders.any_above.Goals as goal

pub loop-w-preserved : goal.loop-w-preserved
loop-w-preserved c = grind (arith, common_steps)

pub returns-then-own-component_at : goal.returns-then-own-component_at
returns-then-own-component_at c = grind (arith, common_steps)
