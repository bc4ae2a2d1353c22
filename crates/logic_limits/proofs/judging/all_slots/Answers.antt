use Rattle.std.proofs.Common.{arith}
use Rattle.std.proofs.lemmas.Grind.{common_steps}
use Rattle.logic_limits.proofs.judging.all_slots.Goals as goal

pub loop-program-preserved : goal.loop-program-preserved
loop-program-preserved c = grind (arith, common_steps)

pub returns : goal.returns
returns c = grind (arith, common_steps)
