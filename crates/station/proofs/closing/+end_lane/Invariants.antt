use Rattle.std.proofs.Common.{length}
use Rattle.station.proofs.closing.+end_lane.Given as goal

abbrev pub decreases-end_lane : goal.decreases-end_lane
decreases-end_lane l = length l.lanes.now
