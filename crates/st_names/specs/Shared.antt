-- The names that all sources share: globals, function blocks and programs.
use Rattle.std.specs.Prelude.{ℕ, Bool, true, false, if◌then◌else◌, List, ◌++◌, map, flat_map, Option, Some, None}
use Rattle.plant_types.specs.Words.{same_word}
use Rattle.st_parser.specs.declared.unit.PouKind.{PouKind}
use Rattle.st_parser.specs.declared.unit.PouKind.TheVariants as pou_kind
use Rattle.st_parser.specs.Units.{PlainPou, PlainUnit}
use Rattle.st_names.specs.First.{first_that}
use Rattle.st_names.specs.DeclaredNames.{PlainDeclared, declared_in}

-- what has a name in all sources: a global, or a function block or program
pub data Shared : Type 0 where
  global : PlainDeclared → Shared
  pou : PlainPou → Shared

abbrev pub shared_name : Shared → List ℕ
shared_name (global d) = d.name
shared_name (pou p) = p.name

-- what a source shares, in order of text
abbrev pub shared_by : PlainUnit → List Shared
shared_by unit = map global (declared_in unit.globals) ++ map pou unit.pous

-- what all sources share, in order of text
abbrev pub shared_in : List PlainUnit → List Shared
shared_in units = flat_map shared_by units

-- the first declaration of a shared name, letter case ignored
abbrev pub find_shared : List PlainUnit → List ℕ → Option Shared
find_shared units name = first_that (λ s. same_word (shared_name s) name) (shared_in units)

abbrev pub as_global : Option Shared → Option PlainDeclared
as_global (Some (global d)) = Some d
as_global _ = None

abbrev pub is_block : PouKind → Bool
is_block pou_kind.Block = true
is_block pou_kind.Program = false

abbrev pub as_block : Option Shared → Option PlainPou
as_block (Some (pou p)) = if is_block p.kind then Some p else None
as_block _ = None

-- the global of a name
abbrev pub global_named : List PlainUnit → List ℕ → Option PlainDeclared
global_named units name = as_global (find_shared units name)

-- the function block of a name
abbrev pub block_named : List PlainUnit → List ℕ → Option PlainPou
block_named units name = as_block (find_shared units name)
