-- The frames of a source: one for each block type in an order, and then one for each program.
use Rattle.std.specs.Prelude.{◌≡◌, ℕ, ◌+◌, nat_eq, Bool, true, false, List, [], ◌∷◌, length, position, Some, slice_get, unwrap_or}
use Rattle.st_tree.specs.Plain.{done}
use Rattle.st_tree.specs.View.{view_body}
use Rattle.st_tree.specs.Mapping.{mapped_body}
use Rattle.logic_source.specs.declared.logic.Instance.{Instance}
use Rattle.logic_source.specs.declared.logic.BlockRef.{BlockRef}
use Rattle.logic_source.specs.declared.logic.BlockRef.TheVariants.{Ton, Tof, RTrig, Declared}
use Rattle.logic_source.specs.Source.{PlainRoutine, Source, own_cells}
use Rattle.logic_source.specs.Names.{meant_in}
use Rattle.logic_source.specs.Paths.{is_called}
use Rattle.logic_source.specs.Worlds.{globals_routine}
use Rattle.logic_source.specs.Seats.{value_count, clock_count, program_values_base, program_clocks_base}
use Rattle.logic_cells.specs.declared.clock.Standard.TheVariants as standard
use Rattle.logic_walk.specs.declared.frame.SeatOf.{SeatOf}
use Rattle.logic_walk.specs.declared.frame.SeatOf.TheVariants as seat_of
use Rattle.logic_walk.specs.declared.frame.Seat.{Seat}
use Rattle.logic_walk.specs.declared.frame.Base.{Base}
use Rattle.logic_walk.specs.declared.frame.Frame.{Frame}
use Rattle.logic_walk.specs.Frames.{AreInTurn}
use Rattle.logic_walk.specs.Starts.{StartsAreMarked}
use Rattle.logic_walk.specs.Standards.{ClocksAreCounted}
use Rattle.logic_frames.specs.Numbers.{numbers}
use Rattle.logic_frames.specs.Reached.{Reaches, flagged, AreReached}

-- the place of a block type in an order; the place behind all of them if it isn't listed
abbrev pub place_in : List ℕ → ℕ → ℕ
place_in order n = unwrap_or (position (nat_eq n) order) (length order)

-- what an instance's seat is of: a standard block, or the frame at the place of its block type
abbrev pub seated : List ℕ → BlockRef → SeatOf
seated order Ton = seat_of.Standard standard.Ton
seated order Tof = seat_of.Standard standard.Tof
seated order RTrig = seat_of.Standard standard.RTrig
seated order (Declared n) = seat_of.Frame (place_in order n)

-- the seat of an instance of a routine: its name as declared, what it is of, where its values and its standard blocks begin, and whether the routine calls it
pub record IsSeat (r : PlainRoutine) (order : List ℕ) (values clocks : ℕ) (i : Instance) (seat : Seat) : Type 0 where
  pub name_is : seat.name ≡ i.name
  pub of_is : seat.of ≡ seated order i.of
  pub values_is : seat.values ≡ values
  pub clocks_is : seat.clocks ≡ clocks
  pub called_is : seat.is_called ≡ is_called r i.name

-- the seats of instances, one after another: each begins where the one before it ends
abbrev pub AreSeats : List PlainRoutine → PlainRoutine → List ℕ → (values clocks : ℕ) → List Instance → List Seat → Type 0
AreSeats blocks r order values clocks [] [] = Unit {0}
AreSeats blocks r order values clocks [] (seat ∷ seats) = ⊥
AreSeats blocks r order values clocks (i ∷ is) [] = ⊥
AreSeats blocks r order values clocks (i ∷ is) (seat ∷ seats) =
    IsSeat r order values clocks i seat × AreSeats blocks r order (values + value_count blocks i.of) (clocks + clock_count blocks i.of) is seats

-- a frame is a routine's: its instances are its seats, whose values come after the routine's own, and its statements are those that are meant, with numbers for names
pub record IsFrame (source : Source) (order : List ℕ) (r : PlainRoutine) (frame : Frame) : Type 0 where
  pub seats_are : AreSeats source.blocks r order (own_cells r) 0 r.instances frame.seats.items
  pub starts_are : view_body frame.starts.items ≡ mapped_body (numbers source r) (meant_in source r r.starts)
  pub body_is : view_body frame.body.items ≡ mapped_body (numbers source r) (meant_in source r r.body)

-- a routine as a frame has it: without its body if nothing comes to call it
abbrev pub framed : (is_run : Bool) → PlainRoutine → PlainRoutine
framed true r = r
framed false r = record { name = r.name; locals = r.locals; rows = r.rows; instances = r.instances; starts = r.starts; body = done }

-- a frame has nothing
pub record IsBlank (frame : Frame) : Type 0 where
  pub seats_are : frame.seats.items ≡ []
  pub starts_are : frame.starts.items ≡ []
  pub body_is : frame.body.items ≡ []
  pub marked : frame.has_starts ≡ false
  pub counted : frame.clocks ≡ 0

-- a table has a frame for each block type in an order, and then one for each program, and the instances of each have their path numbers in turn, and each is marked with what it has;
-- the frame of a block type is of use if programs have instances of it, directly or through other block types, and has the body if they come to call it, and only then; else it has nothing
pub record IsFrames (source : Source) (order : List ℕ) (frames : List Frame) : Type 0 where
  pub used : List Bool
  pub run : List Bool
  pub are_used : AreReached false source used
  pub are_run : AreReached true source run
  pub run_alone : (n : ℕ) → flagged run n ≡ true → Reaches true source n
  pub whole : length frames ≡ length order + length source.programs
  pub of_blocks : (k n : ℕ) (r : PlainRoutine) (frame : Frame) → slice_get order k ≡ Some n → slice_get source.blocks n ≡ Some r → slice_get frames k ≡ Some frame → flagged used n ≡ true → IsFrame source order (framed (flagged run n) r) frame
  pub of_others : (k n : ℕ) (frame : Frame) → slice_get order k ≡ Some n → slice_get frames k ≡ Some frame → flagged used n ≡ false → IsBlank frame
  pub of_programs : (k : ℕ) (p : PlainRoutine) (frame : Frame) → slice_get source.programs k ≡ Some p → slice_get frames (length order + k) ≡ Some frame → IsFrame source order p frame
  pub in_turn : AreInTurn frames
  pub marked : StartsAreMarked frames
  pub counted : ClocksAreCounted frames

-- a frame is that of the globals' initial values, and a table of it alone is as tables are
pub record IsStart (source : Source) (start : Frame) : Type 0 where
  pub is_frame : (order : List ℕ) → IsFrame source order (globals_routine source) start
  pub in_turn : AreInTurn (start ∷ [])
  pub marked : StartsAreMarked (start ∷ [])
  pub counted : ClocksAreCounted (start ∷ [])

-- where the values and the standard blocks of a program begin
abbrev pub program_base : Source → ℕ → Base
program_base source n = record { values = program_values_base source n; clocks = program_clocks_base source n }
