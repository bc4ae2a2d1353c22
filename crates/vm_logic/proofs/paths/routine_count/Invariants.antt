use Rattle.std.proofs.Common.{◌≡◌, ◌+◌, take}
use Rattle.std.specs.List.{sum_by}
use Rattle.vm_logic.specs.Bases.{seat_count, numbers_in, stopped_paths}
use Rattle.vm_logic.proofs.paths.routine_count.Given as goal

abbrev pub invariant-loop-seat : goal.invariant-loop-seat
invariant-loop-seat l = l.total ≡ stopped_paths (1 + sum_by (seat_count (numbers_in l.counts)) (take l.seat-index l.seats))
