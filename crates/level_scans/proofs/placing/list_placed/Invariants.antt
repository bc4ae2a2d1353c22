use Rattle.std.proofs.Common.{◌≡◌, map, take}
use Rattle.level_scans.specs.Faults.{placed_fault}
use Rattle.level_scans.proofs.placing.list_placed.Given as goal

abbrev pub invariant-loop-fault : goal.invariant-loop-fault
invariant-loop-fault l = l.all.items ≡ map (placed_fault l.framed) (take l.fault-index l.faults)
