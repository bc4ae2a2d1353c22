-- The standard blocks of a routine, nested ones too.
use Rattle.std.specs.Prelude.{◌≡◌, ℕ, List, [], ◌∷◌, ◌++◌, length, Some, slice_get}
use Rattle.logic_cells.specs.declared.clock.Standard.{Standard}
use Rattle.logic_walk.specs.declared.frame.SeatOf.{SeatOf}
use Rattle.logic_walk.specs.declared.frame.SeatOf.TheVariants as seat_of
use Rattle.logic_walk.specs.declared.frame.Seat.{Seat}
use Rattle.logic_walk.specs.declared.frame.Frame.{Frame}
use Rattle.logic_walk.specs.Frames.{of_first}

-- an instance of a standard block is one itself; an instance of a frame has those of the frame
abbrev pub seat_standards : (ℕ → List Standard) → SeatOf → List Standard
seat_standards inner (seat_of.Standard standard) = standard ∷ []
seat_standards inner (seat_of.Frame k) = inner k

-- those of instances, one after another
abbrev pub seats_standards : (ℕ → List Standard) → List Seat → List Standard
seats_standards inner [] = []
seats_standards inner (seat ∷ seats) = seat_standards inner seat.of ++ seats_standards inner seats

-- the standard blocks of the frame of a number, instance by instance, nested ones too
unfoldable pub frame_standards : List Frame → (limit k : ℕ) → List Standard
frame_standards frames = of_first [] (λ inner frame. seats_standards inner frame.seats.items) frames

-- each frame is marked with the number of its standard blocks, by the frames before it
abbrev pub ClocksAreCounted : List Frame → Type 0
ClocksAreCounted frames = (k : ℕ) (frame : Frame) → slice_get frames k ≡ Some frame → frame.clocks ≡ length (seats_standards (frame_standards frames k) frame.seats.items)
