use Rattle.std.proofs.Common.{arith}
use Rattle.std.proofs.lemmas.Grind.{common_steps}
use Rattle.vm_logic.proofs.values.value_count.Goals as goal

pub loop-instance-preserved : goal.loop-instance-preserved
loop-instance-preserved c = grind (arith, common_steps)

pub returns : goal.returns
returns c = grind (arith, common_steps)
