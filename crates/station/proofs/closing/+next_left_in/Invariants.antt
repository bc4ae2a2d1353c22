use Rattle.std.proofs.Common.{length}
use Rattle.station.proofs.closing.+next_left_in.Given as goal

abbrev pub decreases-next_left_in : goal.decreases-next_left_in
decreases-next_left_in l = length l.lanes.now
