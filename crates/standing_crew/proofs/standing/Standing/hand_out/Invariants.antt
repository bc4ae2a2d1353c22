use Rattle.std.proofs.Common.{vec_len}
use Rattle.standing_crew.proofs.standing.Standing.hand_out.Given as goal

abbrev pub decreases-loop-self : goal.decreases-loop-self
decreases-loop-self g l = vec_len l.left
