use Rattle.std.proofs.Common.{arith}
use Rattle.std.proofs.lemmas.Grind.{common_steps}
use Rattle.vm_sizes.proofs.paths.paths_below.Goals as goal

pub returns-in-Frame : goal.returns-in-Frame
returns-in-Frame c = grind (arith, common_steps)
