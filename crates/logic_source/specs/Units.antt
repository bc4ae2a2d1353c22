-- The source that a plant's units make: their globals, programs and block types, each in order of text.
use Rattle.std.specs.Prelude.{ℕ, if◌then◌else◌, List, [], ◌∷◌, map, flat_map, length, Option, Some, None, unwrap_or, codes}
use Rattle.plant_types.specs.Words.{same_word}
use Rattle.base_words.specs.Names.{find_name}
use Rattle.st_tree.specs.Plain.{PlainExpr, PlainStmt, assign, PlainBody, done, next}
use Rattle.st_typing.specs.Sort.{Sort}
use Rattle.st_typing.specs.Sort.TheVariants as sort
use Rattle.st_typing.specs.Units.{PlainPou, PlainUnit}
use Rattle.st_typing.specs.DeclaredNames.{PlainDeclared, declared_in}
use Rattle.st_typing.specs.Scopes.{is_external}
use Rattle.logic_source.specs.declared.logic.Variable.{Variable}
use Rattle.logic_source.specs.declared.logic.Local.{Local}
use Rattle.logic_source.specs.declared.logic.Row.{Row}
use Rattle.logic_source.specs.declared.logic.Instance.{Instance}
use Rattle.logic_source.specs.declared.logic.BlockRef.{BlockRef}
use Rattle.logic_source.specs.declared.logic.BlockRef.TheVariants.{Ton, Tof, RTrig, Declared}
use Rattle.logic_source.specs.Source.{PlainRoutine, Source}
use Rattle.logic_source.specs.Pous.{pous_of, block_pous, program_pous, block_names}

-- a declared variable as a global; an array and an instance are none
abbrev pub global_by : PlainDeclared → Sort → List Variable
global_by d (sort.Kind kind) = record { name = d.name; region = d.region; kind = kind } ∷ []
global_by d (sort.Block word) = []
global_by d (sort.Array bounds kind) = []

abbrev pub global_of : PlainDeclared → List Variable
global_of d = global_by d d.sort

-- a declared variable as a routine's own; an array and an instance are none, and a VAR_EXTERNAL is the global of its name
abbrev pub local_by : PlainDeclared → Sort → List Local
local_by d (sort.Kind kind) = record { name = d.name; kind = kind } ∷ []
local_by d (sort.Block word) = []
local_by d (sort.Array bounds kind) = []

abbrev pub local_of : PlainDeclared → List Local
local_of d = if is_external d.section then [] else local_by d d.sort

-- a declared array; a variable and an instance are none
abbrev pub row_by : PlainDeclared → Sort → List Row
row_by d (sort.Kind kind) = []
row_by d (sort.Block word) = []
row_by d (sort.Array bounds kind) = record { name = d.name; kind = kind; bounds = bounds } ∷ []

-- a declared array as a global one
abbrev pub global_row_of : PlainDeclared → List Row
global_row_of d = row_by d d.sort

-- a declared array as a routine's own; a VAR_EXTERNAL is the global array of its name
abbrev pub own_row_of : PlainDeclared → List Row
own_row_of d = if is_external d.section then [] else row_by d d.sort

-- the block type of a word, letter case ignored: a standard one (IEC 61131-3), else the first of the declared ones, whose names these are; the number behind all of them where none has the name
abbrev pub block_ref : List (List ℕ) → List ℕ → BlockRef
block_ref names word =
    if same_word word (codes "TON") then Ton
    else if same_word word (codes "TOF") then Tof
    else if same_word word (codes "R_TRIG") then RTrig
    else Declared (unwrap_or (find_name names word) (length names))

-- a declared instance as a routine's own; a variable and an array are none
abbrev pub instance_by : List (List ℕ) → PlainDeclared → Sort → List Instance
instance_by names d (sort.Kind kind) = []
instance_by names d (sort.Block word) = record { name = d.name; of = block_ref names word } ∷ []
instance_by names d (sort.Array bounds kind) = []

abbrev pub instance_of : List (List ℕ) → PlainDeclared → List Instance
instance_of names d = if is_external d.section then [] else instance_by names d d.sort

-- an assignment of the initial value, where one is written
abbrev pub start_by : List ℕ → Option (PlainExpr (List ℕ)) → List (PlainStmt (List ℕ))
start_by name None = []
start_by name (Some e) = assign 0 name e ∷ []

abbrev pub start_of : PlainDeclared → List (PlainStmt (List ℕ))
start_of d = start_by d.name d.initial

-- a body of statements
abbrev pub listed : List (PlainStmt (List ℕ)) → PlainBody (List ℕ)
listed [] = done
listed (s ∷ ss) = next s (listed ss)

-- the initial values that are written for declared variables
abbrev pub starts_in : List PlainDeclared → PlainBody (List ℕ)
starts_in ds = listed (flat_map start_of ds)

-- a block or program as a routine, by the names of the declared block types
abbrev pub routine_of : List (List ℕ) → PlainPou → PlainRoutine
routine_of names p = record {
  name = p.name;
  locals = flat_map local_of (declared_in p.sections);
  rows = flat_map own_row_of (declared_in p.sections);
  instances = flat_map (instance_of names) (declared_in p.sections);
  starts = starts_in (declared_in p.sections);
  body = p.body;
}

-- the names that all units declare as globals, in order of text
abbrev pub declared_globals : List PlainUnit → List PlainDeclared
declared_globals units = flat_map (λ u. declared_in u.globals) units

-- the source that units make
abbrev pub source_in : List PlainUnit → Source
source_in units = record {
  globals = flat_map global_of (declared_globals units);
  rows = flat_map global_row_of (declared_globals units);
  starts = starts_in (declared_globals units);
  programs = map (routine_of (block_names units)) (program_pous (pous_of units));
  blocks = map (routine_of (block_names units)) (block_pous (pous_of units));
}
