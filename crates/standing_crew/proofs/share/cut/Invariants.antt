use Rattle.std.proofs.Common.{◌<◌, length}
use Rattle.standing_crew.proofs.share.cut.Given as goal

abbrev pub invariant-loop-at : goal.invariant-loop-at
invariant-loop-at g l = l.at < length l.jobs

abbrev pub decreases-loop-at : goal.decreases-loop-at
decreases-loop-at g l = l.at
