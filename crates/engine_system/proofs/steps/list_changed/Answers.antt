use Rattle.std.proofs.Common.{arith}
use Rattle.std.proofs.lemmas.Grind.{common_steps}
use Rattle.engine_system.proofs.steps.list_changed.Goals as goal

pub returns : goal.returns
returns c = grind (arith, common_steps)

pub loop-global-preserved : goal.loop-global-preserved
loop-global-preserved c = grind (arith, common_steps)
