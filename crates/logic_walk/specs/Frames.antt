-- Frames in a table, each of which calls those before it alone, and the paths of the instances below a frame.
use Rattle.std.specs.Prelude.{◌≡◌, ◌≤◌, ◌+◌, ◌^◌, ℕ, zero, suc, nat_eq, if◌then◌else◌, List, [], ◌∷◌, ◌++◌, map, length, Option, Some, None, slice_get}
use Rattle.std.specs.Coded.{×_prop, Unit-prop, le_prop}
use native.Mathlib.Nat.{ℕ_set}
use Rattle.logic_walk.specs.declared.frame.SeatOf.{SeatOf}
use Rattle.plant_types.specs.Values.{Path}
use Rattle.logic_walk.specs.declared.frame.SeatOf.TheVariants as seat_of
use Rattle.logic_walk.specs.declared.frame.Seat.{Seat}
use Rattle.logic_walk.specs.declared.frame.Frame.{Frame}

abbrev pub of_frame : {A : Type 0} → A → (Frame → A) → Option Frame → A
of_frame none rule None = none
of_frame none rule (Some frame) = rule frame

-- what a rule gives for the frame of a number among so many first ones; it may ask for the frames before it
abbrev pub of_first : {A : Type 0} → A → ((ℕ → A) → Frame → A) → List Frame → (limit k : ℕ) → A
of_first none rule frames zero k = none
of_first none rule frames (suc n) k = if nat_eq k n then of_frame none (rule (of_first none rule frames n)) (slice_get frames n) else of_first none rule frames n k

-- the paths that end at an instance: those of its frame, and then its name; none at a standard block
abbrev pub paths_of : (ℕ → List Path) → List ℕ → SeatOf → List Path
paths_of paths name (seat_of.Standard standard) = []
paths_of paths name (seat_of.Frame k) = map (λ path. path ++ name ∷ []) (paths k)

-- the paths below an instance: none below a standard block, nor below an instance that its routine doesn't call
abbrev pub paths_below : (ℕ → List Path) → Seat → List Path
paths_below paths seat = if seat.is_called then paths_of paths seat.name seat.of else []

abbrev pub seats_paths : (ℕ → List Path) → List Seat → List Path
seats_paths paths [] = []
seats_paths paths (seat ∷ seats) = paths_below paths seat ++ seats_paths paths seats

-- the paths of a routine by their numbers, from the routine on: its own, and then those below each of its instances in turn
abbrev pub routine_paths : (ℕ → List Path) → List Seat → List Path
routine_paths paths seats = [] ∷ seats_paths paths seats

-- the paths of the frame of a number
unfoldable pub frame_paths : List Frame → (limit k : ℕ) → List Path
frame_paths frames = of_first [] (λ paths frame. routine_paths paths frame.seats.items) frames

-- the first path number of each instance, from one on
abbrev pub AreNumbered : (ℕ → List Path) → ℕ → List Seat → Type 0
AreNumbered paths n [] = Unit {0}
AreNumbered paths n (seat ∷ seats) = (seat.paths ≡ n) × AreNumbered paths (n + length (paths_below paths seat)) seats

-- the instances of a routine have their path numbers in turn, and each number is one of 32 bits
pub record InTurn (paths : ℕ → List Path) (seats : List Seat) : Type 0 where
  pub numbered : AreNumbered paths 1 seats
  pub few : length (routine_paths paths seats) ≤ 2 ^ 32

-- the instances of each frame have their path numbers in turn
abbrev pub AreInTurn : List Frame → Type 0
AreInTurn frames = (k : ℕ) (frame : Frame) → slice_get frames k ≡ Some frame → InTurn (frame_paths frames k) frame.seats.items

-- instances are numbered in one way at most
pub AreNumbered-prop : (paths : ℕ → List Path) (n : ℕ) (seats : List Seat) → IsProp (AreNumbered paths n seats)
AreNumbered-prop paths n [] = Unit-prop
AreNumbered-prop paths n (seat ∷ seats) = ×_prop (ℕ_set _ _) (AreNumbered-prop paths (n + length (paths_below paths seat)) seats)

-- instances have their numbers in turn in one way at most
pub InTurn-prop : (paths : ℕ → List Path) (seats : List Seat) → IsProp (InTurn paths seats)
InTurn-prop paths seats a b = λ i. record { numbered = AreNumbered-prop paths 1 seats a.numbered b.numbered i; few = le_prop a.few b.few i }

-- and so do those of all frames
pub AreInTurn-prop : (frames : List Frame) → IsProp (AreInTurn frames)
AreInTurn-prop frames a b = λ i k frame is. InTurn-prop (frame_paths frames k) frame.seats.items (a k frame is) (b k frame is) i
