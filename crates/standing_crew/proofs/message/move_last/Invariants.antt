use Rattle.std.proofs.Common.{vec_len}
use Rattle.standing_crew.proofs.message.move_last.Given as goal

abbrev pub decreases-loop-from : goal.decreases-loop-from
decreases-loop-from g l = vec_len l.from
