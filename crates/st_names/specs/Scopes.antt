-- What a name in a body is: what the body declares itself, else a global.
use Rattle.std.specs.Prelude.{ℕ, Bool, true, false, not, ◌&&◌, if◌then◌else◌, List, Option, Some, None, is_some, option_map, option_and_then}
use Rattle.plant_types.specs.declared.values.Bounds.{Bounds}
use Rattle.plant_types.specs.declared.values.Kind.{Kind}
use Rattle.plant_types.specs.declared.values.Region.{Region}
use Rattle.plant_types.specs.declared.values.Region.TheVariants as region
use Rattle.plant_types.specs.declared.values.Kind.TheVariants as kind
use Rattle.st_tree.specs.Kinds.{is_kind}
use Rattle.st_parser.specs.declared.unit.SectionKind.{SectionKind}
use Rattle.st_parser.specs.declared.unit.SectionKind.TheVariants as section
use Rattle.st_parser.specs.declared.unit.Sort.{Sort}
use Rattle.st_parser.specs.declared.unit.Sort.TheVariants as sort
use Rattle.st_parser.specs.Units.{PlainUnit}
use Rattle.st_names.specs.DeclaredNames.{PlainDeclared, find_declared, sort_kind, sort_array}
use Rattle.st_names.specs.Shared.{global_named}
use Rattle.st_names.specs.BlockTypes.{BlockType, block_type, Member, inputs_of, outputs_of, find_member}

-- one or else another
abbrev pub or_other : {A : Type 0} → Option A → Option A → Option A
or_other (Some a) other = Some a
or_other None other = other

abbrev pub is_external : SectionKind → Bool
is_external section.External = true
is_external _ = false

-- the block type of what is declared; a variable and an array have none
abbrev pub sort_type : List PlainUnit → Sort → Option BlockType
sort_type units (sort.Kind kind) = None
sort_type units (sort.Block word) = block_type units word
sort_type units (sort.Array bounds kind) = None

-- where what is declared lies: a VAR_EXTERNAL lies where its global does
abbrev pub region_of : List PlainUnit → PlainDeclared → Option Region
region_of units d = if is_external d.section then option_and_then (λ (g : PlainDeclared). g.region) (global_named units d.name) else d.region

-- the kind of the global of a name
abbrev pub global_kind : List PlainUnit → List ℕ → Option Kind
global_kind units name = option_and_then (λ (g : PlainDeclared). sort_kind g.sort) (global_named units name)

-- the bounds of the global array of a name, and the kind of its elements
abbrev pub global_array : List PlainUnit → List ℕ → Option (Bounds × Kind)
global_array units name = option_and_then (λ (g : PlainDeclared). sort_array g.sort) (global_named units name)

-- a region is that of inputs, to which nothing may be assigned
abbrev pub is_input : Option Region → Bool
is_input (Some region.Input) = true
is_input _ = false

module _ (units : List PlainUnit) (own : List PlainDeclared) where
  -- the declaration of a name in a body: the body's own hides a global
  abbrev pub named : List ℕ → Option PlainDeclared
  named name = or_other (find_declared own name) (global_named units name)

  -- the kind of the variable of a name
  abbrev pub variable_kind : List ℕ → Option Kind
  variable_kind name = option_and_then (λ d. sort_kind d.sort) (named name)

  -- the bounds of the array of a name, and the kind of its elements
  abbrev pub array_named : List ℕ → Option (Bounds × Kind)
  array_named name = option_and_then (λ d. sort_array d.sort) (named name)

  -- the kind of the elements of the array of a name
  abbrev pub element_kind : List ℕ → Option Kind
  element_kind name = option_map (λ a. a.1) (array_named name)

  -- the block type of the instance of a name
  abbrev pub instance_type : List ℕ → Option BlockType
  instance_type name = option_and_then (λ d. sort_type units d.sort) (named name)

  -- the input of a name, of the instance of a name
  abbrev pub input_named : (instance name : List ℕ) → Option Member
  input_named instance name = option_and_then (λ t. find_member (inputs_of t) name) (instance_type instance)

  -- the output of a name, of the instance of a name
  abbrev pub output_named : (instance name : List ℕ) → Option Member
  output_named instance name = option_and_then (λ t. find_member (outputs_of t) name) (instance_type instance)

  -- the kinds of these
  abbrev pub input_kind : (instance name : List ℕ) → Option Kind
  input_kind instance name = option_and_then (λ m. m.kind) (input_named instance name)

  abbrev pub output_kind : (instance name : List ℕ) → Option Kind
  output_kind instance name = option_and_then (λ m. m.kind) (output_named instance name)

  -- where the variable of a name lies: a VAR_EXTERNAL lies where its global does
  abbrev pub region_named : List ℕ → Option Region
  region_named name = option_and_then (region_of units) (named name)

  -- a name may be assigned: it is that of a variable, and not of an input of the plant
  abbrev pub is_assignable : List ℕ → Bool
  is_assignable name = is_some (variable_kind name) && not (is_input (region_named name))

-- a control variable is a DINT variable of the body's own; a VAR_EXTERNAL isn't its own
abbrev pub can_control : Option PlainDeclared → Bool
can_control None = false
can_control (Some d) = not (is_external d.section) && is_kind kind.Dint (sort_kind d.sort)

-- a name is that of a variable that a FOR may have as its control variable
abbrev pub is_control : List PlainDeclared → List ℕ → Bool
is_control own name = can_control (find_declared own name)
