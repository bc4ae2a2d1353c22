use Rattle.std.proofs.Common.{arith}
use Rattle.std.proofs.lemmas.Grind.{common_steps}
use Rattle.st_blocks.proofs.holders.any_within.Goals as goal

pub loop-w-preserved : goal.loop-w-preserved
loop-w-preserved c = grind (arith, common_steps)

pub returns-then-component_at-own : goal.returns-then-component_at-own
returns-then-component_at-own c = grind (arith, common_steps)
