-- Worlds in which each value is in the range of its variable's kind.
use Rattle.std.specs.Prelude.{◌≡◌, ℕ, true, List, [], ◌∷◌, ◌++◌, map, Option, Some, None}
use Rattle.std.specs.List.{All}
use Rattle.plant_types.specs.Words.{folded}
use Rattle.plant_types.specs.declared.values.Bounds.{Bounds}
use Rattle.plant_types.specs.declared.values.Kind.{Kind}
use Rattle.plant_types.specs.declared.values.Kind.TheVariants as kind
use Rattle.plant_types.specs.Values.{is_in_range, Path}
use Rattle.std_blocks.specs.Calls.{Call}
use Rattle.logic_source.specs.declared.logic.Variable.{Variable}
use Rattle.logic_source.specs.declared.logic.Local.{Local}
use Rattle.logic_source.specs.declared.logic.Row.{Row}
use Rattle.logic_source.specs.declared.logic.Instance.{Instance}
use Rattle.logic_source.specs.declared.logic.BlockRef.{BlockRef}
use Rattle.logic_source.specs.declared.logic.BlockRef.TheVariants.{Ton, Tof, RTrig, Declared}
use Rattle.logic_source.specs.Source.{PlainRoutine, Source}
use Rattle.logic_source.specs.Blocks.{by_type}
use Rattle.logic_source.specs.Worlds.{World, path_of, in_word, pt_word, clk_word}
use Rattle.logic_source.specs.Layout.{element_values}

-- the path of a value, its kind, and the bounds of the array if it is an element of one
pub record KindAt : Type 0 where
  pub path : Path
  pub kind : Kind
  pub bounds : Option Bounds

abbrev pub kind_at : Path → Kind → KindAt
kind_at path kind = record { path = path; kind = kind; bounds = None }

-- the kind of an element of an array at the element's path
abbrev pub element_at : Kind → Bounds → Path → KindAt
element_at kind bounds path = record { path = path; kind = kind; bounds = Some bounds }

-- the kinds of an instance's values at a path in small letters: IN is a BOOL, PT a TIME and CLK a BOOL
abbrev pub block_kinds : (ℕ → Path → List KindAt) → BlockRef → Path → List KindAt
block_kinds inner Ton path = kind_at (in_word ∷ path) kind.Bool ∷ kind_at (pt_word ∷ path) kind.Time ∷ []
block_kinds inner Tof path = kind_at (in_word ∷ path) kind.Bool ∷ kind_at (pt_word ∷ path) kind.Time ∷ []
block_kinds inner RTrig path = kind_at (clk_word ∷ path) kind.Bool ∷ []
block_kinds inner (Declared n) path = inner n path

abbrev pub instance_kinds : (ℕ → Path → List KindAt) → List Instance → Path → List KindAt
instance_kinds inner [] path = []
instance_kinds inner (i ∷ is) path = block_kinds inner i.of (folded i.name ∷ path) ++ instance_kinds inner is path

-- the kinds of variables at a path in small letters, in order of declaration
abbrev pub local_kinds : List Local → Path → List KindAt
local_kinds [] path = []
local_kinds (l ∷ ls) path = kind_at (folded l.name ∷ path) l.kind ∷ local_kinds ls path

-- the kinds of arrays' elements at a path in small letters, in order of declaration
abbrev pub row_kinds : List Row → Path → List KindAt
row_kinds [] path = []
row_kinds (row ∷ rows) path = map (element_at row.kind row.bounds) (element_values row.bounds (folded row.name ∷ path)) ++ row_kinds rows path

-- the kinds of a routine's own values at a path in small letters: those of its variables, then those of its arrays' elements
abbrev pub own_kinds : PlainRoutine → Path → List KindAt
own_kinds r path = local_kinds r.locals path ++ row_kinds r.rows path

-- the kinds of a routine's values at a path in small letters: its own, then instance by instance
abbrev pub kinds_rule : (ℕ → Path → List KindAt) → PlainRoutine → Path → List KindAt
kinds_rule inner r path = own_kinds r path ++ instance_kinds inner r.instances path

-- the same of the block type of a number
abbrev pub routine_kinds : List PlainRoutine → ℕ → Path → List KindAt
routine_kinds blocks = by_type (λ path. []) kinds_rule blocks

-- the kind of a global variable
abbrev pub global_kind_at : Variable → KindAt
global_kind_at global = kind_at (path_of global.name) global.kind

-- the kinds of a source's globals: those of its global variables, then those of its global arrays' elements
abbrev pub global_kinds : Source → List KindAt
global_kinds source = map global_kind_at source.globals ++ row_kinds source.rows []

-- the kinds of programs' values, one after another
abbrev pub program_kinds : List PlainRoutine → List PlainRoutine → List KindAt
program_kinds blocks [] = []
program_kinds blocks (p ∷ ps) = kinds_rule (routine_kinds blocks) p (folded p.name ∷ []) ++ program_kinds blocks ps

-- the kinds of all values, at their paths: the globals, then program by program
abbrev pub all_kinds : Source → List KindAt
all_kinds source = global_kinds source ++ program_kinds source.blocks source.programs

-- the value of each variable, of each element of an array and of each input of a standard block is in the range of its kind, and so is PT in each call of a standard block
pub record AllInRange (source : Source) (w : World) : Type 0 where
  pub values : All (λ v. is_in_range v.kind (w.values v.path) ≡ true) (all_kinds source)
  pub calls : (path : Path) → All (λ (c : Call). is_in_range kind.Time c.pt ≡ true) (w.calls path)
