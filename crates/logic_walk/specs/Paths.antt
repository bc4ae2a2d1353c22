-- The text of a path below a routine, and the instance below which a path lies.
use Rattle.std.specs.Prelude.{ℕ, ◌+◌, Bool, true, false, ◌&&◌, nat_le, if◌then◌else◌, List, [], ◌∷◌, ◌++◌, codes}
use Rattle.plant_types.specs.Values.{Path}
use Rattle.logic_walk.specs.declared.frame.SeatOf.{SeatOf}
use Rattle.logic_walk.specs.declared.frame.SeatOf.TheVariants as seat_of
use Rattle.logic_walk.specs.declared.frame.Seat.{Seat}

-- from a routine on, a point and the name of each instance on the way
abbrev pub path_suffix : Path → List ℕ
path_suffix [] = []
path_suffix (name ∷ path) = path_suffix path ++ codes "." ++ name

-- an instance is of a frame, and of no standard block
abbrev pub is_of_frame : SeatOf → Bool
is_of_frame (seat_of.Standard standard) = false
is_of_frame (seat_of.Frame k) = true

-- an instance of a frame is called, and its path numbers begin at a number or before it
abbrev pub begins_by : Seat → ℕ → Bool
begins_by seat path = is_of_frame seat.of && (seat.is_called && nat_le seat.paths path)

-- the number of the last such instance among those from the one of a number on; the one that was found before if there is none
abbrev pub last_by : List Seat → (path found i : ℕ) → ℕ
last_by [] path found i = found
last_by (seat ∷ seats) path found i = last_by seats path (if begins_by seat path then i else found) (i + 1)
