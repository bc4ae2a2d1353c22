-- The path numbers below an instance stay among those of its routine.
use Rattle.std.proofs.Common.{◌≡◌, ℕ, ◌+◌, ◌-◌, ◌<◌, ◌≤◌, List, length, Some, ap, true, arith, inl, inr}
use Rattle.std.specs.Prelude.{slice_get}
use Rattle.std.proofs.lemmas.Option.{slice_get_cases}
use Rattle.plant_types.specs.Values.{Path}
use Rattle.logic_walk.specs.declared.frame.SeatOf.TheVariants as seat_of
use Rattle.logic_walk.specs.declared.frame.Seat.{Seat}
use Rattle.logic_walk.specs.declared.frame.Frame.{Frame}
use Rattle.logic_walk.specs.Frames.{InTurn, frame_paths, routine_paths}
use Rattle.logic_walk.proofs.Firsts.{paths_is}
use Rattle.logic_walk.proofs.Numbers.{number_below}

-- a frame of the table has a path
has_path : (frames : List Frame) (limit k : ℕ) → k < limit → limit ≤ length frames → 0 < length (frame_paths frames limit k)
has_path frames limit k less within =
    elim ((slice_get_cases frames k).1) [
      | inl found ↦ (let e = ap (λ (l : List Path). length l) (paths_is frames limit k found.0 less found.2) in omega arith)
      | inr past ↦ (let far = past.0 in absurd (omega arith))
    ]

-- an instance of a frame that is called has as many path numbers as its frame has paths
pub numbers_below : (frames : List Frame) (limit k instance : ℕ) (seats : List Seat) (seat : Seat) → k < limit → limit ≤ length frames → InTurn (frame_paths frames limit) seats → slice_get seats instance ≡ Some seat
    → seat.of ≡ seat_of.Frame k → seat.is_called ≡ true → (0 < length (frame_paths frames limit k)) × (seat.paths + length (frame_paths frames limit k) ≤ length (routine_paths (frame_paths frames limit) seats))
numbers_below frames limit k instance seats seat less within turn at of on =
    let paths = frame_paths frames limit in
    let n = length (paths k) in
    let some : 0 < n = has_path frames limit k less within in
    let last = (number_below paths seats instance seat k (n - 1) turn at of on (omega (arith, some))).inside in
    (some, omega (arith, some, last))
