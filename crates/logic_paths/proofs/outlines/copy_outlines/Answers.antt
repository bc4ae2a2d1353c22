use Rattle.std.proofs.Common.{arith}
use Rattle.std.proofs.lemmas.Grind.{common_steps}
use Rattle.logic_paths.proofs.outlines.copy_outlines.Goals as goal

pub loop-outline-preserved : goal.loop-outline-preserved
loop-outline-preserved c = grind (arith, common_steps)

pub returns : goal.returns
returns c = grind (arith, common_steps)
