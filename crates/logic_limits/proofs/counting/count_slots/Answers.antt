use Rattle.std.proofs.Common.{arith}
use Rattle.std.proofs.lemmas.Grind.{common_steps}
use Rattle.logic_limits.proofs.counting.count_slots.Goals as goal

pub loop-instance-preserved : goal.loop-instance-preserved
loop-instance-preserved c = grind (arith, common_steps)

pub returns : goal.returns
returns c = grind (arith, common_steps)
