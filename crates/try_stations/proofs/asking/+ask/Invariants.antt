use Rattle.std.proofs.Common.{length}
use Rattle.try_stations.proofs.asking.+ask.Given as goal

abbrev pub decreases-ask : goal.decreases-ask
decreases-ask l = length l.consoles.now
