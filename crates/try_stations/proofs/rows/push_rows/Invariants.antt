use Rattle.station.specs.Lanes.{AreConsolesIn}
use Rattle.try_stations.proofs.rows.push_rows.Given as goal

abbrev pub invariant-loop-line : goal.invariant-loop-line
invariant-loop-line g l = AreConsolesIn l.station.lanes l.consoles
