-- What sections declare, name by name.
use Rattle.std.specs.Prelude.{ℕ, Bool, true, false, if◌then◌else◌, List, [], ◌∷◌, ◌++◌, map, flat_map, Option, Some, None}
use Rattle.plant_types.specs.Words.{folded, same_word}
use Rattle.plant_types.specs.declared.values.Bounds.{Bounds}
use Rattle.plant_types.specs.declared.values.Kind.{Kind}
use Rattle.plant_types.specs.declared.values.Region.{Region}
use Rattle.st_tree.specs.Plain.{PlainExpr}
use Rattle.st_parser.specs.declared.unit.SectionKind.{SectionKind}
use Rattle.st_parser.specs.declared.unit.Sort.{Sort}
use Rattle.st_parser.specs.declared.unit.Sort.TheVariants as sort
use Rattle.st_parser.specs.Units.{PlainDeclaration, PlainSection}
use Rattle.base_words.specs.Names.{is_among}
use Rattle.st_names.specs.First.{first_that}

-- a declared name: in which kind of section, where it lies, what it is, and its initial value
pub record PlainDeclared : Type 0 where
  pub section : SectionKind
  pub name : List ℕ
  pub region : Option Region
  pub sort : Sort
  pub initial : Option (PlainExpr (List ℕ))

-- a name of a declaration, in a kind of section
abbrev pub declared_as : SectionKind → PlainDeclaration → List ℕ → PlainDeclared
declared_as section d name = record { section = section; name = name; region = d.region; sort = d.sort; initial = d.initial }

-- names that are declared together are declared one after another
abbrev pub declared_together : SectionKind → PlainDeclaration → List PlainDeclared
declared_together section d = map (declared_as section d) d.names

-- the names that a section declares, in order of text
abbrev pub declared_by : PlainSection → List PlainDeclared
declared_by s = flat_map (declared_together s.kind) s.declarations

-- the names that sections declare, in order of text
abbrev pub declared_in : List PlainSection → List PlainDeclared
declared_in sections = flat_map declared_by sections

-- the declared names in small letters
abbrev pub declared_words : List PlainDeclared → List (List ℕ)
declared_words ds = map (λ d. folded d.name) ds

-- the first declaration of a name, letter case ignored
abbrev pub find_declared : List PlainDeclared → List ℕ → Option PlainDeclared
find_declared ds name = first_that (λ d. same_word d.name name) ds

-- the first declaration of each name, letter case ignored, that none of some names is
abbrev pub first_declared : List (List ℕ) → List PlainDeclared → List PlainDeclared
first_declared names [] = []
first_declared names (d ∷ ds) = if is_among names d.name then first_declared names ds else d ∷ first_declared (names ++ d.name ∷ []) ds

-- the kind of a variable; an instance and an array have none
abbrev pub sort_kind : Sort → Option Kind
sort_kind (sort.Kind kind) = Some kind
sort_kind (sort.Block word) = None
sort_kind (sort.Array bounds kind) = None

-- the bounds of an array, and the kind of its elements; a variable and an instance have none
abbrev pub sort_array : Sort → Option (Bounds × Kind)
sort_array (sort.Kind kind) = None
sort_array (sort.Block word) = None
sort_array (sort.Array bounds kind) = Some (bounds, kind)

-- a declared name is an instance, of a standard block or of a block type
abbrev pub is_instance_sort : Sort → Bool
is_instance_sort (sort.Kind kind) = false
is_instance_sort (sort.Block word) = true
is_instance_sort (sort.Array bounds kind) = false
