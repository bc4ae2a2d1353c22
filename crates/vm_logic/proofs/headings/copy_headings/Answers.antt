use Rattle.std.proofs.Common.{arith}
use Rattle.std.proofs.lemmas.Grind.{common_steps}
use Rattle.vm_logic.proofs.headings.copy_headings.Goals as goal

pub loop-heading-preserved : goal.loop-heading-preserved
loop-heading-preserved c = grind (arith, common_steps)

pub returns : goal.returns
returns c = grind (arith, common_steps)
