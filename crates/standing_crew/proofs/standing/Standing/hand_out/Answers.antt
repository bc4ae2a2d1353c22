use Rattle.std.proofs.Common.{arith}
use Rattle.std.proofs.lemmas.Grind.{common_steps}
use Rattle.standing_crew.proofs.standing.Standing.hand_out.Goals as goal

pub cut-place-requires : goal.cut-place-requires
cut-place-requires g c = grind (arith, common_steps)
