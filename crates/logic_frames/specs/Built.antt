-- What the code builds of a routine by a table of what it knows of each block type.
use Rattle.std.specs.Prelude.{◌≡◌, ◌<◌, ◌^◌, ℕ, ◌+◌, ◌==◌, ◌||◌, not, Bool, true, false, List, [], length, take, slice_get, Some}
use Rattle.st_tree.specs.Plain.{PlainBody}
use Rattle.st_tree.specs.Numbers.{count_body}
use Rattle.st_tree.specs.View.{view_body}
use Rattle.st_blocks.specs.Chains.{Among}
use Rattle.st_tree.specs.Mapping.{mapped_body}
use Rattle.logic_source.specs.Source.{PlainRoutine, Source, own_cells}
use Rattle.logic_source.specs.Names.{meant_in}
use Rattle.logic_source.specs.Paths.{is_called, type_paths}
use Rattle.logic_source.specs.Blocks.{HasItsTypes}
use Rattle.logic_source.specs.Layout.{cells_per_type, clocks_per_type}
use Rattle.logic_walk.specs.declared.frame.Frame.{Frame}
use Rattle.logic_walk.specs.Frames.{frame_paths, AreInTurn}
use Rattle.logic_walk.specs.Starts.{frame_has_starts, StartsAreMarked}
use Rattle.logic_walk.specs.Standards.{frame_standards, ClocksAreCounted}
use Rattle.logic_seats.specs.Seats.{Fits, extent, any_starts, seats_by, ends_by}
use Rattle.logic_seats.specs.declared.seats.Extent.{Extent}
use Rattle.logic_seats.specs.declared.seats.Callee.{Callee}
use Rattle.logic_frames.specs.declared.names.Variables.{Variables}
use Rattle.logic_frames.specs.Numbers.{numbers}
use Rattle.logic_frames.specs.Reached.{flagged, AreReached}
use Rattle.logic_frames.specs.Small.{HasFewCells, HasFewSteps}
use Rattle.logic_frames.specs.Frames.{place_in, IsFrame, framed, IsBlank}
use Rattle.logic_frames.specs.declared.scope.RoutineNames.{RoutineNames}
use Rattle.logic_frames.specs.Scoped.{AreVariables, AreArrays, AreMembers, IsNumberedIn, global_variables}

-- where the first instance of a routine begins
abbrev pub first_of : PlainRoutine → Extent
first_of r = extent (own_cells r) 0 1

-- names and kinds are those of a source
pub record AreOf (source : Source) (globals : Variables) (members : List Variables) : Type 0 where
  pub globals_are : AreVariables (global_variables source.globals) globals
  pub arrays_are : AreArrays (length source.globals) source.rows globals.arrays
  pub members_are : AreMembers source.blocks members

-- the flags are those of what a source's programs reach, by instances and by calls, and what is flagged is little; names and kinds are the source's
pub record IsMeasured (source : Source) (globals : Variables) (members : List Variables) (used run : List Bool) : Type 0 where
  pub of : AreOf source globals members
  pub are_used : AreReached false source used
  pub are_run : AreReached true source run
  pub few_used : (n : ℕ) (r : PlainRoutine) → slice_get source.blocks n ≡ Some r → flagged used n ≡ true → HasFewCells source.blocks r
  pub few_run : (n : ℕ) (r : PlainRoutine) → slice_get source.blocks n ≡ Some r → flagged run n ≡ true → HasFewSteps source.blocks r

-- a table tells how much an instance of a block type has: its values and its standard blocks, and its paths if something comes to call it
pub record IsSized (blocks : List PlainRoutine) (run : List Bool) (table : List Callee) (n : ℕ) : Type 0 where
  pub callee : Callee
  pub at : slice_get table n ≡ Some callee
  pub values_is : callee.extent.values ≡ cells_per_type blocks n
  pub clocks_is : callee.extent.clocks ≡ clocks_per_type blocks n
  pub paths_is : flagged run n ≡ true → callee.extent.paths ≡ length (type_paths blocks n)

-- the numbers of a routine's frame fit, by a table: those of its own cells, of its seats and of its statements
pub record IsFitting (table : List Callee) (r : PlainRoutine) : Type 0 where
  pub own : own_cells r < 2 ^ 32
  pub seats : Fits (ends_by table (is_called r) (first_of r) r.instances)
  pub starts : 1 + count_body r.starts < 2 ^ 32
  pub statements : 1 + count_body r.body < 2 ^ 32

-- a table knows a block type: how much it has, and the frame at its place
pub record IsKnown (blocks : List PlainRoutine) (order : List ℕ) (frames : List Frame) (table : List Callee) (n : ℕ) : Type 0 where
  pub callee : Callee
  pub at : slice_get table n ≡ Some callee
  pub values_is : callee.extent.values ≡ cells_per_type blocks n
  pub clocks_is : callee.extent.clocks ≡ clocks_per_type blocks n
  pub place_is : callee.place ≡ place_in order n
  pub within : callee.place < length frames
  pub paths_is : callee.extent.paths ≡ length (frame_paths frames (length frames) callee.place)
  pub starts_is : callee.has_starts ≡ frame_has_starts frames (length frames) callee.place
  pub standards_is : callee.extent.clocks ≡ length (frame_standards frames (length frames) callee.place)

-- the first so many block types of an order have their frames, and the table knows those that are used
pub record AreBuilt (source : Source) (order : List ℕ) (used run : List Bool) (k : ℕ) (frames : List Frame) (table : List Callee) : Type 0 where
  pub many : length frames ≡ k
  pub long : length table ≡ length source.blocks
  pub known : (n : ℕ) → Among (take k order) n → flagged used n ≡ true → IsKnown source.blocks order frames table n
  pub of_blocks : (j n : ℕ) (r : PlainRoutine) (frame : Frame) → slice_get order j ≡ Some n → slice_get source.blocks n ≡ Some r → slice_get frames j ≡ Some frame → flagged used n ≡ true → IsFrame source order (framed (flagged run n) r) frame
  pub of_others : (j n : ℕ) (frame : Frame) → slice_get order j ≡ Some n → slice_get frames j ≡ Some frame → flagged used n ≡ false → IsBlank frame
  pub in_turn : AreInTurn frames
  pub marked : StartsAreMarked frames
  pub counted : ClocksAreCounted frames

-- a frame is what the code builds of a routine by a table, and an extent what it has
pub record IsMade (source : Source) (table : List Callee) (r : PlainRoutine) (frame : Frame) (end : Extent) : Type 0 where
  pub seats_are : frame.seats.items ≡ seats_by table (is_called r) (first_of r) r.instances
  pub end_is : end ≡ ends_by table (is_called r) (first_of r) r.instances
  pub few : end.paths < 2 ^ 32
  pub starts_are : view_body frame.starts.items ≡ mapped_body (numbers source r) (meant_in source r r.starts)
  pub body_is : view_body frame.body.items ≡ mapped_body (numbers source r) (meant_in source r r.body)
  pub marked : frame.has_starts ≡ (not (length frame.starts.items == 0) || any_starts table r.instances)
  pub counted : frame.clocks ≡ end.clocks

-- the same for each source with these names and kinds, where the path numbers are of 32 bits
abbrev pub AllMade : Variables → List Variables → List Callee → PlainRoutine → Frame → Extent → Type 0
AllMade globals members table r frame end = (source : Source) → AreOf source globals members → end.paths < 2 ^ 32 → IsMade source table r frame end

-- the same for each source with these names and kinds, and these block types
abbrev pub AllBuilt : Variables → List Variables → List PlainRoutine → List ℕ → (used run : List Bool) → ℕ → List Frame → List Callee → Type 0
AllBuilt globals members blocks order used run k frames table =
    (source : Source) → source.blocks ≡ blocks → AreOf source globals members → AreReached false source used → AreBuilt source order used run k frames table

-- the frames of all block types of an order, and those of the first so many programs
pub record AreBegun (source : Source) (order : List ℕ) (used run : List Bool) (k : ℕ) (frames : List Frame) (table : List Callee) : Type 0 where
  pub many : length frames ≡ length order + k
  pub known : (n : ℕ) → n < length source.blocks → flagged used n ≡ true → IsKnown source.blocks order frames table n
  pub of_blocks : (j n : ℕ) (r : PlainRoutine) (frame : Frame) → slice_get order j ≡ Some n → slice_get source.blocks n ≡ Some r → slice_get frames j ≡ Some frame → flagged used n ≡ true → IsFrame source order (framed (flagged run n) r) frame
  pub of_others : (j n : ℕ) (frame : Frame) → slice_get order j ≡ Some n → slice_get frames j ≡ Some frame → flagged used n ≡ false → IsBlank frame
  pub of_programs : (j : ℕ) (p : PlainRoutine) (frame : Frame) → j < k → slice_get source.programs j ≡ Some p → slice_get frames (length order + j) ≡ Some frame → IsFrame source order p frame
  pub in_turn : AreInTurn frames
  pub marked : StartsAreMarked frames
  pub counted : ClocksAreCounted frames

-- so many programs got their frames, for each source with these names and kinds, and these programs
abbrev pub AllBegun : Variables → List Variables → List PlainRoutine → List Callee → List Frame → ℕ → List Frame → Type 0
AllBegun globals members programs table before k frames =
    (source : Source) (order : List ℕ) (used run : List Bool) → source.programs ≡ programs → AreOf source globals members → HasItsTypes source → AreReached false source used
    → AreBegun source order used run 0 before table → AreBegun source order used run k frames table

-- a frame has initial values alone, which are numbered in a scope
pub record IsStartIn (scope : RoutineNames) (starts : PlainBody (List ℕ)) (frame : Frame) : Type 0 where
  pub seats_are : frame.seats.items ≡ []
  pub starts_are : IsNumberedIn scope starts (view_body frame.starts.items)
  pub body_is : frame.body.items ≡ []
  pub marked : frame.has_starts ≡ not (length frame.starts.items == 0)
  pub counted : frame.clocks ≡ 0
