use Rattle.std.proofs.Common.{length}
use Rattle.station.proofs.closing.+next_left_answer_in.Given as goal

abbrev pub decreases-next_left_answer_in : goal.decreases-next_left_answer_in
decreases-next_left_answer_in l = length l.lanes.now
