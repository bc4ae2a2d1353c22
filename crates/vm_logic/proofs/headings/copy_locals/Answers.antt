use Rattle.std.proofs.Common.{arith}
use Rattle.std.proofs.lemmas.Grind.{common_steps}
use Rattle.vm_logic.proofs.headings.copy_locals.Goals as goal

pub loop-local-preserved : goal.loop-local-preserved
loop-local-preserved c = grind (arith, common_steps)

pub returns : goal.returns
returns c = grind (arith, common_steps)
