-- The layout of a source: the paths of all values, and of all standard blocks, each list in one order.
use Rattle.std.specs.Prelude.{◌≡◌, ℕ, zero, suc, ℤ, pos, ◌+ℤ◌, List, [], ◌∷◌, ◌++◌, map, length, false}
use Rattle.plant_types.specs.Words.{folded}
use Rattle.plant_types.specs.Values.{row_length, Path}
use Rattle.plant_types.specs.declared.values.Bounds.{Bounds}
use Rattle.std_blocks.specs.Calls.{Call}
use Rattle.st_typing.specs.Taken.{repeats}
use Rattle.std.specs.List.{All}
use Rattle.logic_source.specs.declared.logic.Variable.{Variable}
use Rattle.logic_source.specs.declared.logic.Local.{Local}
use Rattle.logic_source.specs.declared.logic.Row.{Row}
use Rattle.logic_source.specs.declared.logic.Instance.{Instance}
use Rattle.logic_source.specs.declared.logic.BlockRef.{BlockRef}
use Rattle.logic_source.specs.declared.logic.BlockRef.TheVariants.{Ton, Tof, RTrig, Declared}
use Rattle.logic_source.specs.Source.{PlainRoutine, Source}
use Rattle.logic_source.specs.Names.{global_words, own_words, row_words, instance_words}
use Rattle.logic_source.specs.Blocks.{by_type}
use Rattle.logic_source.specs.Worlds.{World, same_path, index_word, in_word, pt_word, clk_word}

-- the standard block at a path
pub record ClockAt : Type 0 where
  pub of : BlockRef
  pub path : Path

-- the values of an instance at a path in small letters: the inputs of a standard block, or what its block type has
abbrev pub block_values : (ℕ → Path → List Path) → BlockRef → Path → List Path
block_values inner Ton path = (in_word ∷ path) ∷ (pt_word ∷ path) ∷ []
block_values inner Tof path = (in_word ∷ path) ∷ (pt_word ∷ path) ∷ []
block_values inner RTrig path = (clk_word ∷ path) ∷ []
block_values inner (Declared n) path = inner n path

abbrev pub instance_values : (ℕ → Path → List Path) → List Instance → Path → List Path
instance_values inner [] path = []
instance_values inner (i ∷ is) path = block_values inner i.of (folded i.name ∷ path) ++ instance_values inner is path

-- the values of variables at a path in small letters, in order of declaration
abbrev pub local_values : List Local → Path → List Path
local_values [] path = []
local_values (l ∷ ls) path = (folded l.name ∷ path) ∷ local_values ls path

-- so many elements of the array at a path, from an index on
abbrev pub elements_from : ℤ → ℕ → Path → List Path
elements_from i zero path = []
elements_from i (suc n) path = (index_word i ∷ path) ∷ elements_from (i +ℤ pos 1) n path

-- the elements of the array at a path, from that of the low bound to that of the high one
abbrev pub element_values : Bounds → Path → List Path
element_values bounds path = elements_from bounds.low (row_length bounds) path

-- the elements of arrays at a path in small letters, in order of declaration
abbrev pub row_values : List Row → Path → List Path
row_values [] path = []
row_values (row ∷ rows) path = element_values row.bounds (folded row.name ∷ path) ++ row_values rows path

-- a routine's own values at a path in small letters: those of its variables, then the elements of its arrays
abbrev pub own_values : PlainRoutine → Path → List Path
own_values r path = local_values r.locals path ++ row_values r.rows path

-- the values of a routine at a path in small letters: its own, then instance by instance
abbrev pub values_rule : (ℕ → Path → List Path) → PlainRoutine → Path → List Path
values_rule inner r path = own_values r path ++ instance_values inner r.instances path

-- the same of the block type of a number
abbrev pub routine_values : List PlainRoutine → ℕ → Path → List Path
routine_values blocks = by_type (λ path. []) values_rule blocks

-- the standard blocks of an instance at a path: itself, or those of its block type
abbrev pub block_clocks : (ℕ → Path → List ClockAt) → BlockRef → Path → List ClockAt
block_clocks inner Ton path = record { of = Ton; path = path } ∷ []
block_clocks inner Tof path = record { of = Tof; path = path } ∷ []
block_clocks inner RTrig path = record { of = RTrig; path = path } ∷ []
block_clocks inner (Declared n) path = inner n path

abbrev pub instance_clocks : (ℕ → Path → List ClockAt) → List Instance → Path → List ClockAt
instance_clocks inner [] path = []
instance_clocks inner (i ∷ is) path = block_clocks inner i.of (folded i.name ∷ path) ++ instance_clocks inner is path

-- the standard blocks of a routine at a path in small letters, instance by instance
abbrev pub clocks_rule : (ℕ → Path → List ClockAt) → PlainRoutine → Path → List ClockAt
clocks_rule inner r path = instance_clocks inner r.instances path

-- the same of the block type of a number
abbrev pub routine_clocks : List PlainRoutine → ℕ → Path → List ClockAt
routine_clocks blocks = by_type (λ path. []) clocks_rule blocks

-- how many values and how many standard blocks an instance of the block type of a number has
abbrev pub cells_per_type : List PlainRoutine → ℕ → ℕ
cells_per_type blocks n = length (routine_values blocks n [])

abbrev pub clocks_per_type : List PlainRoutine → ℕ → ℕ
clocks_per_type blocks n = length (routine_clocks blocks n [])

-- the values of global variables, in order of declaration
abbrev pub variable_values : List Variable → List Path
variable_values globals = map (λ word. word ∷ []) (global_words globals)

-- the values of a source's globals: those of its global variables, then the elements of its global arrays
abbrev pub global_values : Source → List Path
global_values source = variable_values source.globals ++ row_values source.rows []

-- the values of programs, one after another
abbrev pub program_values : List PlainRoutine → List PlainRoutine → List Path
program_values blocks [] = []
program_values blocks (p ∷ ps) = values_rule (routine_values blocks) p (folded p.name ∷ []) ++ program_values blocks ps

abbrev pub program_clocks : List PlainRoutine → List PlainRoutine → List ClockAt
program_clocks blocks [] = []
program_clocks blocks (p ∷ ps) = clocks_rule (routine_clocks blocks) p (folded p.name ∷ []) ++ program_clocks blocks ps

-- the paths of all values: the globals, then program by program
abbrev pub cell_paths : Source → List Path
cell_paths source = global_values source ++ program_values source.blocks source.programs

-- all standard blocks, program by program
abbrev pub all_clocks : Source → List ClockAt
all_clocks source = program_clocks source.blocks source.programs

-- the paths of all standard blocks
abbrev pub clock_paths : Source → List Path
clock_paths source = map (λ (c : ClockAt). c.path) (all_clocks source)

-- values and calls stand for a world: they are what it has at each path, in order
pub record Stands (source : Source) (values : List ℤ) (calls : List (List Call)) (w : World) : Type 0 where
  pub values_are : values ≡ map w.values (cell_paths source)
  pub calls_are : calls ≡ map w.calls (clock_paths source)

-- a path is none of a list's
abbrev pub Absent : Path → List Path → Type 0
Absent p [] = Unit {0}
Absent p (q ∷ qs) = (same_path p q ≡ false) × Absent p qs

-- no path stands twice
abbrev pub NoneTwice : List Path → Type 0
NoneTwice [] = Unit {0}
NoneTwice (p ∷ ps) = Absent p ps × NoneTwice ps

-- a routine's own variables, its own arrays and its instances, all together, have different names, letter case ignored
abbrev pub AreNamedApart : PlainRoutine → Type 0
AreNamedApart r = repeats (own_words r.locals ++ (row_words r.rows ++ instance_words r.instances)) ≡ false

-- a source's declared names are distinct: those of its globals, those of its global arrays and its programs, all together, and those of each routine
pub record IsDistinctlyNamed (source : Source) : Type 0 where
  pub globals_apart : repeats (global_words source.globals) ≡ false
  pub rows_apart : repeats (row_words source.rows ++ map (λ p. folded p.name) source.programs) ≡ false
  pub programs_apart : repeats (map (λ p. folded p.name) source.programs) ≡ false
  pub in_programs : All AreNamedApart source.programs
  pub in_blocks : All AreNamedApart source.blocks
