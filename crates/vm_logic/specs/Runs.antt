-- Runs over cells, and runs in the worlds that they stand for.
use Rattle.std.specs.Prelude.{◌≡◌, ◌<◌, ◌≤◌, ◌+◌, ◌++◌, ℕ, List, [], ◌∷◌, map, length, get_or, Option, Some, None, Result, Ok, Err, slice_get}
use Rattle.plant_types.specs.declared.values.Place.{Place}
use Rattle.st_tree.specs.Meaning.{Spot, Ran, Done, Trapped}
use Rattle.logic_source.specs.Source.{PlainRoutine, Source, global_cells}
use Rattle.logic_source.specs.Worlds.{World, run_program}
use Rattle.logic_source.specs.Layout.{cell_paths, all_clocks}
use Rattle.logic_source.specs.Paths.{paths_rule, type_paths, paths_of}
use Rattle.logic_limits.specs.Counts.{program_costs}
use Rattle.logic_cells.specs.declared.stop.Stop.{Stop}
use Rattle.logic_cells.specs.Cells.{PlainCells}
use Rattle.plant_types.specs.Values.{Path}
use Rattle.logic_cells.specs.Runs.{spot_of}
use Rattle.logic_walk.specs.declared.frame.Frame.{Frame}
use Rattle.logic_frames.specs.Frames.{IsFrames, program_base}
use Rattle.logic_frames.specs.Stands.{StandFor}
use Rattle.acc_vm.specs.declared.instr.Instr.{Instr}
use Rattle.acc_vm.specs.Machine.{Over}
use Rattle.acc_vm.specs.Codes.{PlainCode, IsSound, fuel_of, run_of}
use Rattle.vm_programs.specs.Slots.{Names, NamesClock}
use Rattle.vm_programs.specs.Codes.{IsMade}
use Rattle.vm_logic.specs.Bases.{IsOwnValue, IsOwnClock}
use Rattle.vm_logic.specs.declared.walking.Walked.{Walked}
use Rattle.vm_logic.specs.declared.walking.Walked.TheVariants as walked

-- the spot of a place: the path of its body, and the statement's number
abbrev pub place_spot : Source → Place → Spot
place_spot source place = spot_of (paths_of source) place

-- a place by a program's own paths, counted among those of the source: the program's first path has a number there
abbrev pub placed_from : ℕ → Place → Place
placed_from base place = record { path = base + place.path; statement = place.statement }

-- how a walk ends, with the cells that it leaves
abbrev pub ran : Source → Walked → PlainCells → Ran PlainCells
ran source walked.Done cells = Done cells
ran source (walked.Trapped place trap) cells = Trapped cells (place_spot source place) trap

-- how a run of the program whose first path has a number ends, by how the run of its frame ended
abbrev pub walked_by : ℕ → Result (Unit {0}) Stop → Walked
walked_by base (Ok _) = walked.Done
walked_by base (Err stop) = walked.Trapped (placed_from base stop.place) stop.trap

-- a trap's place has a path of the source
abbrev pub IsWithin : Source → Walked → Type 0
IsWithin source walked.Done = Unit {0}
IsWithin source (walked.Trapped place trap) = place.path < length (paths_of source)

-- a run over cells ends as a run in a world does, at the same spot and with the same kind of trap, and the cells stand for the world
abbrev pub Agree : Source → Ran World → Ran PlainCells → Type 0
Agree source (Done w) (Done cells) = StandFor source cells w
Agree source (Done w) (Trapped cells spot trap) = ⊥
Agree source (Trapped w spot trap) (Done cells) = ⊥
Agree source (Trapped w spot trap) (Trapped cells other kind) = StandFor source cells w × (spot ≡ other) × (trap ≡ kind)

-- cells have a value for each variable of a source, and a clock for each of its standard blocks
pub record HasCells (source : Source) (cells : PlainCells) : Type 0 where
  pub values : length cells.values ≡ length (cell_paths source)
  pub clocks : length cells.clocks ≡ length (all_clocks source)

-- by the machine, a run of the code that is made of the program of a number takes so many instructions from cells
pub record TakesInstructions (source : Source) (n t : ℕ) (cells : PlainCells) (count : ℕ) : Type 0 where
  pub order : List ℕ
  pub frames : List Frame
  pub are_frames : IsFrames source order frames
  pub code : PlainCode
  pub made : IsMade frames (global_cells source) (length order) n (program_base source n) (get_or (program_costs source) n 0) code
  pub result : Ran PlainCells
  pub left : ℕ
  pub runs : run_of t [] code cells ≡ Over result left
  pub count_is : count + left ≡ fuel_of code

-- the paths of a program: its own, and those of the instances that it calls, each with the program's name at its end
abbrev pub paths_below : List PlainRoutine → Option PlainRoutine → List Path
paths_below blocks None = []
paths_below blocks (Some p) = map (λ path. path ++ p.name ∷ []) (paths_rule (type_paths blocks) p)

-- the paths of the program of a number, by the numbers that its code has; none if there is no such program
abbrev pub paths_in : Source → ℕ → List Path
paths_in source n = paths_below source.blocks (slice_get source.programs n)

-- from cells, code is over at a moment, and ends as the program of a number does in a world
pub record EndsAsProgram (source : Source) (n t : ℕ) (code : PlainCode) (cells : PlainCells) (w : World) : Type 0 where
  pub result : Ran PlainCells
  pub left : ℕ
  pub runs : run_of t (paths_in source n) code cells ≡ Over result left
  pub agrees : Agree source (run_program source n t w) result

-- beside the globals, which come first, instructions name only values and clocks of the program of a number
pub record NamesOwn (source : Source) (n : ℕ) (code : List Instr) : Type 0 where
  pub values : (s : ℕ) → Names code s → global_cells source ≤ s → IsOwnValue source n s
  pub clocks : (k : ℕ) → NamesClock code k → IsOwnClock source n k

-- code is that of the program of a number: it is sound, cells of the source have what it names, which is few, and beside the globals the program's own, its paths are the program's, it tells what the program costs, and from cells that stand for a world it ends as the program does there
pub record IsProgramCode (source : Source) (n : ℕ) (code : PlainCode) : Type 0 where
  pub sound : IsSound code
  pub values : (cells : PlainCells) → HasCells source cells → code.values ≤ length cells.values
  pub clocks : (cells : PlainCells) → HasCells source cells → code.clocks ≤ length cells.clocks
  pub few_values : code.values ≤ 65536
  pub few_clocks : code.clocks ≤ 65536
  pub own : NamesOwn source n code.instrs
  pub cost : code.cost ≡ get_or (program_costs source) n 0
  pub paths : code.paths ≡ length (paths_in source n)
  pub ends : (t : ℕ) (cells : PlainCells) (w : World) → StandFor source cells w → EndsAsProgram source n t code cells w
