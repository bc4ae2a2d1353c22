use Rattle.station.specs.Lanes.{KeepsConsoles}
use Rattle.try_room.proofs.day.go_through.Given as goal

abbrev pub invariant-loop-line : goal.invariant-loop-line
invariant-loop-line g l = KeepsConsoles l.fn.station.lanes l.station.lanes
