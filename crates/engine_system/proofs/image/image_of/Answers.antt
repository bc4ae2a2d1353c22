use Rattle.std.proofs.Common.{arith}
use Rattle.std.proofs.lemmas.Grind.{common_steps}
use Rattle.engine_system.proofs.image.image_of.Goals as goal

pub has_twin-requires : goal.has_twin-requires
has_twin-requires c = grind (arith, common_steps)
