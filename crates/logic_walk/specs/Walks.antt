-- What bodies over numbers do, and what runs over cells give.
use Rattle.std.specs.Prelude.{◌+◌, ◌-◌, ◌*◌, ◌^◌, ◌<◌, ℕ, ℤ, pos, Bool, true, false, nat_lt, if◌then◌else◌, List, [], ◌∷◌, ◌++◌, Option, Some, None, Result, Ok, Err, slice_get}
use Rattle.plant_types.specs.Values.{is_true, row_place, Path}
use Rattle.std_blocks.specs.Calls.{call}
use Rattle.st_tree.specs.View.{view_body}
use Rattle.st_tree.specs.Meaning.{Space, Ran, Done, Trapped, Chosen, Took, Passed, run_all}
use Rattle.logic_cells.specs.declared.clock.Standard.{Standard}
use Rattle.logic_cells.specs.declared.clock.Standard.TheVariants as standard
use Rattle.logic_cells.specs.declared.stop.Stop.{Stop}
use Rattle.logic_cells.specs.Cells.{PlainCells, value_at, assigned, clocked}
use Rattle.logic_cells.specs.Clocks.{shown_by}
use Rattle.logic_cells.specs.Runs.{ended}
use Rattle.logic_walk.specs.declared.frame.SeatOf.{SeatOf}
use Rattle.logic_walk.specs.declared.frame.SeatOf.TheVariants as seat_of
use Rattle.logic_walk.specs.declared.frame.Seat.{Seat}
use Rattle.logic_walk.specs.declared.frame.Base.{Base}
use Rattle.logic_walk.specs.declared.frame.Frame.{Frame}
use Rattle.logic_walk.specs.Frames.{of_first, routine_paths, frame_paths}

-- the number of a variable's value: a global's is its own, and those of the routine's own variables begin at its base
abbrev pub slot_of : ℕ → Base → ℕ → ℕ
slot_of globals base v = if nat_lt v globals then v else base.values + (v - globals)

-- the value that an instance's input or output of a number has in the cells
abbrev pub member_slot : Base → Seat → ℕ → ℕ
member_slot base seat name = base.values + seat.values + name

-- where the values and the clocks of an instance begin
abbrev pub base_of : Base → Seat → Base
base_of base seat = record { values = base.values + seat.values; clocks = base.clocks + seat.clocks }

abbrev pub output_by : SeatOf → Base → Seat → PlainCells → ℕ → ℤ
output_by (seat_of.Standard standard) base seat cells name = shown_by (slice_get cells.clocks (base.clocks + seat.clocks)) name
output_by (seat_of.Frame k) base seat cells name = value_at cells (member_slot base seat name)

-- the value of an output of an instance: what the clock of a standard block shows, else a variable of the instance's own
abbrev pub output_at : Option Seat → Base → PlainCells → ℕ → ℤ
output_at None base cells name = pos 0
output_at (Some seat) base cells name = output_by seat.of base seat cells name

-- the cells after an input of an instance was assigned
abbrev pub with_input : Option Seat → Base → PlainCells → ℕ → ℤ → PlainCells
with_input None base cells name n = cells
with_input (Some seat) base cells name n = assigned cells (member_slot base seat name) n

-- PT of a standard block's instance: its input 1; R_TRIG has none
abbrev pub pt_of : Standard → Base → Seat → PlainCells → ℤ
pt_of standard.Ton base seat cells = value_at cells (member_slot base seat 1)
pt_of standard.Tof base seat cells = value_at cells (member_slot base seat 1)
pt_of standard.RTrig base seat cells = pos 0

abbrev pub called_by : ℕ → (ℕ → Base → Path → PlainCells → Ran PlainCells) → SeatOf → Base → Seat → Path → PlainCells → Ran PlainCells
called_by t inner (seat_of.Standard standard) base seat path cells =
    Done (clocked cells (base.clocks + seat.clocks) (call (is_true (value_at cells (member_slot base seat 0))) (pt_of standard base seat cells) t))
called_by t inner (seat_of.Frame k) base seat path cells = if seat.is_called then inner k (base_of base seat) (seat.name ∷ path) cells else Done cells

-- what a call of an instance does, where what each frame does is given: a standard block's clock is called with the inputs, a frame runs at the instance's base;
-- an instance of a frame that isn't marked as called does nothing
abbrev pub called : ℕ → (ℕ → Base → Path → PlainCells → Ran PlainCells) → Option Seat → Base → Path → PlainCells → Ran PlainCells
called t inner None base path cells = Done cells
called t inner (Some seat) base path cells = called_by t inner seat.of base seat path cells

-- what the numbers of a routine's body mean in cells, at a moment
abbrev pub frame_space : ℕ → ℕ → (ℕ → Base → Path → PlainCells → Ran PlainCells) → List Seat → Base → Path → Space ℕ PlainCells
frame_space t globals inner seats base path = record {
  path = path;
  get = λ cells v. value_at cells (slot_of globals base v);
  put = λ cells v n. assigned cells (slot_of globals base v) n;
  get_at = λ cells v bounds i. value_at cells (row_place (slot_of globals base v) bounds i);
  put_at = λ cells v bounds i n. assigned cells (row_place (slot_of globals base v) bounds i) n;
  get_output = λ cells instance name. output_at (slice_get seats instance) base cells name;
  put_input = λ cells instance name n. with_input (slice_get seats instance) base cells name n;
  enter = λ cells instance. called t inner (slice_get seats instance) base path cells;
}

-- what the frame of a number does at a base and a path, among so many first ones
unfoldable pub run_frame : ℕ → ℕ → List Frame → (limit k : ℕ) → Base → Path → PlainCells → Ran PlainCells
run_frame t globals frames =
    of_first (λ base path cells. Done cells) (λ inner frame base path cells. run_all (frame_space t globals inner frame.seats.items base path) (view_body frame.body.items) cells) frames

-- a run whose paths go on from a path
abbrev pub under : Path → Ran PlainCells → Ran PlainCells
under path (Done cells) = Done cells
under path (Trapped cells spot trap) = Trapped cells (record { path = spot.path ++ path; statement = spot.statement }) trap

-- what frames do, by what they do with paths that begin at them
abbrev pub placed : (ℕ → Base → PlainCells → Ran PlainCells) → ℕ → Base → Path → PlainCells → Ran PlainCells
placed inner k base path cells = under path (inner k base cells)

-- what the frame of a number does, with paths that begin at it
unfoldable pub run_within : ℕ → ℕ → List Frame → (limit k : ℕ) → Base → PlainCells → Ran PlainCells
run_within t globals frames =
    of_first (λ base cells. Done cells) (λ inner frame base cells. run_all (frame_space t globals (placed inner) frame.seats.items base []) (view_body frame.body.items) cells) frames

-- what the numbers of a routine's body mean where a call does nothing
abbrev pub still : ℕ → List Seat → Base → Space ℕ PlainCells
still globals seats base = frame_space 0 globals (λ k at path cells. Done cells) seats base []

-- how a choice among branches ends, by whether one of them was run
abbrev pub chosen : List Path → Result Bool Stop → PlainCells → Chosen PlainCells
chosen paths (Ok true) cells = Took (Done cells)
chosen paths (Ok false) cells = Passed cells
chosen paths (Err stop) cells = Took (ended paths (Err stop) cells)

-- the space and the paths of a routine in a table
abbrev pub space_within : ℕ → ℕ → List Frame → ℕ → List Seat → Base → Space ℕ PlainCells
space_within t globals frames limit seats base = frame_space t globals (placed (run_within t globals frames limit)) seats base []

abbrev pub paths_within : List Frame → ℕ → List Seat → List Path
paths_within frames limit seats = routine_paths (frame_paths frames limit) seats

-- so many calls inside one another leave every base below 2 ^ 128
abbrev pub HasRoom : Base → ℕ → Type 0
HasRoom base calls = (base.values + calls * 2 ^ 64 < 2 ^ 128) × (base.clocks + calls * 2 ^ 64 < 2 ^ 128)
