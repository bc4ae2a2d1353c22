-- A source whose values, standard blocks, statements and paths are few enough for the numbers that frames have of them.
use Rattle.std.specs.Prelude.{◌≡◌, ◌<◌, ◌+◌, ◌^◌, ℕ, true, false, List, [], length, slice_get, Some}
use Rattle.st_tree.specs.Numbers.{count_body}
use Rattle.logic_source.specs.Source.{PlainRoutine, Source, global_cells}
use Rattle.logic_source.specs.Layout.{values_rule, routine_values, clocks_rule, routine_clocks}
use Rattle.logic_source.specs.Paths.{paths_rule, type_paths}
use Rattle.logic_frames.specs.Reached.{Reaches}

-- what an instance of a routine has is little: its values and its standard blocks, and the initial values that are written for its own variables
pub record HasFewCells (blocks : List PlainRoutine) (r : PlainRoutine) : Type 0 where
  pub values : length (values_rule (routine_values blocks) r []) < 2 ^ 32
  pub clocks : length (clocks_rule (routine_clocks blocks) r []) < 2 ^ 32
  pub starts : 1 + count_body r.starts < 2 ^ 32

-- what runs of a routine is little: its statements, and the paths at which it and what it calls run
pub record HasFewSteps (blocks : List PlainRoutine) (r : PlainRoutine) : Type 0 where
  pub paths : length (paths_rule (type_paths blocks) r) < 2 ^ 32
  pub statements : 1 + count_body r.body < 2 ^ 32

-- a source is small: its globals have few cells and few initial values, and its programs and the block types that these reach have little, by instances of what an instance has, by calls of what runs
pub record IsSmall (source : Source) : Type 0 where
  pub globals : global_cells source < 2 ^ 32
  pub starts : 1 + count_body source.starts < 2 ^ 32
  pub program_cells : (k : ℕ) (p : PlainRoutine) → slice_get source.programs k ≡ Some p → HasFewCells source.blocks p
  pub program_steps : (k : ℕ) (p : PlainRoutine) → slice_get source.programs k ≡ Some p → HasFewSteps source.blocks p
  pub used : (n : ℕ) (r : PlainRoutine) → slice_get source.blocks n ≡ Some r → Reaches false source n → HasFewCells source.blocks r
  pub run : (n : ℕ) (r : PlainRoutine) → slice_get source.blocks n ≡ Some r → Reaches true source n → HasFewSteps source.blocks r
