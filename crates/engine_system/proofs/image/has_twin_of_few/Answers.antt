use Rattle.std.proofs.Common.{arith}
use Rattle.std.proofs.lemmas.Grind.{common_steps}
use Rattle.engine_system.proofs.image.has_twin_of_few.Goals as goal

pub returns : goal.returns
returns c = grind (arith, common_steps)
