-- The initial values of a routine, and of the instances below it.
use Rattle.std.specs.Prelude.{◌≡◌, ℕ, Bool, false, not, ◌||◌, ◌==◌, List, [], ◌∷◌, length, Some, slice_get}
use Rattle.std.specs.List.{list_any}
use Rattle.st_tree.specs.View.{view_body}
use Rattle.st_tree.specs.Meaning.{Space, Ran, Done, Trapped, run_all}
use Rattle.logic_cells.specs.Cells.{PlainCells}
use Rattle.logic_walk.specs.declared.frame.SeatOf.{SeatOf}
use Rattle.logic_walk.specs.declared.frame.SeatOf.TheVariants as seat_of
use Rattle.logic_walk.specs.declared.frame.Seat.{Seat}
use Rattle.logic_walk.specs.declared.frame.Base.{Base}
use Rattle.logic_walk.specs.declared.frame.Frame.{Frame}
use Rattle.logic_walk.specs.Frames.{of_first}
use Rattle.logic_walk.specs.Walks.{base_of, space_within}

-- the cells that a run leaves
abbrev pub left_by : Ran PlainCells → PlainCells
left_by (Done cells) = cells
left_by (Trapped cells spot trap) = cells

-- the statements that assign initial values name variables alone
abbrev pub start_space : ℕ → Base → Space ℕ PlainCells
start_space globals base = space_within 0 globals [] 0 [] base

abbrev pub seat_begun : (ℕ → Base → PlainCells → PlainCells) → SeatOf → Base → Seat → PlainCells → PlainCells
seat_begun inner (seat_of.Standard standard) base seat cells = cells
seat_begun inner (seat_of.Frame k) base seat cells = inner k (base_of base seat) cells

abbrev pub seats_begun : (ℕ → Base → PlainCells → PlainCells) → List Seat → Base → PlainCells → PlainCells
seats_begun inner [] base cells = cells
seats_begun inner (seat ∷ seats) base cells = seats_begun inner seats base (seat_begun inner seat.of base seat cells)

-- the cells after the initial values of the frame of a number at a base were assigned, and then those of each instance in turn, nested ones too
unfoldable pub frame_begun : ℕ → List Frame → (limit k : ℕ) → Base → PlainCells → PlainCells
frame_begun globals frames =
    of_first (λ base cells. cells) (λ inner frame base cells. seats_begun inner frame.seats.items base (left_by (run_all (start_space globals base) (view_body frame.starts.items) cells))) frames

-- an instance of a standard block assigns none, and one of a frame does if the frame does
abbrev pub seat_has_starts : (ℕ → Bool) → SeatOf → Bool
seat_has_starts inner (seat_of.Standard standard) = false
seat_has_starts inner (seat_of.Frame k) = inner k

-- whether a routine assigns an initial value, or an instance below it does, where whether each frame does so is given
abbrev pub routine_has_starts : (ℕ → Bool) → Frame → Bool
routine_has_starts inner frame = not (length frame.starts.items == 0) || list_any (λ (seat : Seat). seat_has_starts inner seat.of) frame.seats.items

-- whether the frame of a number assigns an initial value, or an instance below it does
unfoldable pub frame_has_starts : List Frame → (limit k : ℕ) → Bool
frame_has_starts frames = of_first false routine_has_starts frames

-- each frame is marked with whether it assigns an initial value, or an instance below it does, by the frames before it
abbrev pub StartsAreMarked : List Frame → Type 0
StartsAreMarked frames = (k : ℕ) (frame : Frame) → slice_get frames k ≡ Some frame → frame.has_starts ≡ routine_has_starts (frame_has_starts frames k) frame
