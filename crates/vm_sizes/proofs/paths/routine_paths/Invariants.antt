use Rattle.std.proofs.Common.{◌≡◌, ◌+◌, ◌≤◌, ℕ, List, length, drop}
use Rattle.plant_types.specs.Values.{Path}
use Rattle.logic_walk.specs.Frames.{seats_paths}
use Rattle.vm_sizes.specs.Counts.{capped, paths_at}
use Rattle.vm_sizes.proofs.paths.routine_paths.Given as goal

-- what is counted, and what is left to count, is all, as far as paths are counted
abbrev pub invariant-loop-seat : goal.invariant-loop-seat
invariant-loop-seat l =
    ((paths : ℕ → List Path) → ((k : ℕ) → capped (length (paths k)) ≡ paths_at l.table k) → capped (l.total + length (seats_paths paths (drop l.seat-index l.seats))) ≡ capped (1 + length (seats_paths paths l.seats))) × (l.total ≤ 18446744073709551615)
