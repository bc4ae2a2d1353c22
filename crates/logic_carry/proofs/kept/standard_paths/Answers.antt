use Rattle.std.proofs.Common.{arith}
use Rattle.std.proofs.lemmas.Grind.{common_steps}
use Rattle.logic_carry.proofs.kept.standard_paths.Goals as goal

pub loop-standard-preserved : goal.loop-standard-preserved
loop-standard-preserved c = grind (arith, common_steps)

pub returns : goal.returns
returns c = grind (arith, common_steps)
