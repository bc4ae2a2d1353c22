use Rattle.try_stations.specs.Seated.{AreSame}
use Rattle.try_stations.proofs.counts.all_room.Given as goal

abbrev pub invariant-loop-listed : goal.invariant-loop-listed
invariant-loop-listed l = AreSame l.fn.consoles l.consoles
