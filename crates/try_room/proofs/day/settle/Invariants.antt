use Rattle.station.specs.Lanes.{KeepsConsoles}
use Rattle.try_room.proofs.day.settle.Given as goal

abbrev pub invariant-loop-turns : goal.invariant-loop-turns
invariant-loop-turns g l = KeepsConsoles l.fn.station.lanes l.station.lanes
