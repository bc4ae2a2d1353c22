use Rattle.std.proofs.Common.{arith}
use Rattle.std.proofs.lemmas.Grind.{common_steps}
use Rattle.logic_frames.proofs.names.kinds_of_globals.Goals as goal

pub loop-global-preserved : goal.loop-global-preserved
loop-global-preserved c = grind (arith, common_steps)

pub returns : goal.returns
returns c = grind (arith, common_steps)
