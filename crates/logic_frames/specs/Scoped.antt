-- What the code knows of the names in a routine, and bodies over numbers by it.
use Rattle.std.specs.Prelude.{◌≡◌, ℕ, pos, ◌+◌, if◌then◌else◌, List, [], ◌∷◌, length, map, Option, Some, None, option_map, option_and_then, unwrap_or, slice_get, codes}
use Rattle.std.specs.Option.{option_map_or}
use Rattle.plant_types.specs.Words.{same_word}
use Rattle.plant_types.specs.Values.{row_length}
use Rattle.plant_types.specs.declared.values.Bounds.{Bounds}
use Rattle.plant_types.specs.declared.values.Kind.{Kind}
use Rattle.plant_types.specs.declared.values.Kind.TheVariants as kind
use Rattle.st_tree.specs.Plain.{PlainExpr, PlainArgument, PlainStmt, PlainBody, Branches, Choices}
use Rattle.st_tree.specs.Numbers.{numbered_stmt, numbered, numbered_branches, numbered_choices}
use Rattle.st_tree.specs.Kinds.{KindsOf, resolved_expr, resolved_argument, resolved_stmt, resolved_body, resolved_branches, resolved_choices}
use Rattle.st_tree.specs.Mapping.{Mapping, mapped_expr, mapped_argument, mapped_stmt, mapped_body, mapped_branches, mapped_choices}
use Rattle.logic_source.specs.Scopes.{or_other}
use Rattle.base_words.specs.Names.{find_name}
use Rattle.logic_source.specs.declared.logic.Local.{Local}
use Rattle.logic_source.specs.declared.logic.Row.{Row}
use Rattle.logic_source.specs.declared.logic.Variable.{Variable}
use Rattle.logic_source.specs.declared.logic.Instance.{Instance}
use Rattle.logic_source.specs.declared.logic.BlockRef.{BlockRef}
use Rattle.logic_source.specs.declared.logic.BlockRef.TheVariants.{Ton, Tof, RTrig, Declared}
use Rattle.logic_source.specs.Source.{PlainRoutine, Source, row_cells}
use Rattle.logic_source.specs.Seats.{own_or_global, timer_number}
use Rattle.logic_source.specs.Names.{meant_in}
use Rattle.logic_frames.specs.Numbers.{timer_shows, numbers}
use Rattle.logic_frames.specs.declared.names.Arrays.{Arrays}
use Rattle.logic_frames.specs.declared.names.Laid.{Laid}
use Rattle.logic_frames.specs.declared.names.Variables.{Variables}
use Rattle.logic_frames.specs.declared.names.Instances.{Instances}
use Rattle.logic_frames.specs.declared.scope.RoutineNames.{RoutineNames}

-- the kind of the variable of a name
abbrev pub kind_among : Variables → List ℕ → Option Kind
kind_among variables name = option_and_then (slice_get variables.kinds.items) (find_name variables.names name)

-- what the instance of a name is of
abbrev pub block_among : Instances → List ℕ → Option BlockRef
block_among instances name = option_and_then (slice_get instances.blocks.items) (find_name instances.names name)

-- the array of a name
abbrev pub array_among : Arrays → List ℕ → Option Laid
array_among arrays name = option_and_then (slice_get arrays.laid.items) (find_name arrays.names name)

-- the number of its first element, counted from the first of the variables that the arrays stand behind
abbrev pub first_among : Arrays → List ℕ → Option ℕ
first_among arrays name = option_map (λ (l : Laid). l.first) (array_among arrays name)

-- what is known of variables, in order: the name and the kind of each
pub record PlainVariables : Type 0 where
  pub names : List (List ℕ)
  pub kinds : List Kind

-- what the code knows of variables is this
pub record AreVariables (plain : PlainVariables) (variables : Variables) : Type 0 where
  pub names_are : variables.names ≡ plain.names
  pub kinds_are : variables.kinds.items ≡ plain.kinds

abbrev pub local_names : List Local → List (List ℕ)
local_names locals = map (λ (l : Local). l.name) locals

abbrev pub local_kinds : List Local → List Kind
local_kinds locals = map (λ (l : Local). l.kind) locals

-- of a routine's own variables
abbrev pub own_variables : List Local → PlainVariables
own_variables locals = record { names = local_names locals; kinds = local_kinds locals }

abbrev pub global_names : List Variable → List (List ℕ)
global_names globals = map (λ (g : Variable). g.name) globals

abbrev pub global_kinds : List Variable → List Kind
global_kinds globals = map (λ (g : Variable). g.kind) globals

-- of globals
abbrev pub global_variables : List Variable → PlainVariables
global_variables globals = record { names = global_names globals; kinds = global_kinds globals }

-- an array whose first element has a number
abbrev pub laid : Row → ℕ → Laid
laid row first = record { kind = row.kind; bounds = row.bounds; first = first }

-- arrays, of which the first element of the first has a number
abbrev pub laid_from : ℕ → List Row → List Laid
laid_from n [] = []
laid_from n (row ∷ rows) = laid row n ∷ laid_from (n + row_length row.bounds) rows

abbrev pub row_names : List Row → List (List ℕ)
row_names rows = map (λ (row : Row). row.name) rows

-- what the code knows of arrays is that of these, in order, behind so many variables
pub record AreArrays (variables : ℕ) (rows : List Row) (arrays : Arrays) : Type 0 where
  pub names_are : arrays.names ≡ row_names rows
  pub laid_are : arrays.laid.items ≡ laid_from variables rows
  pub end_is : arrays.end ≡ variables + row_cells rows

-- names and blocks are those of instances, in order
pub record AreInstances (list : List Instance) (instances : Instances) : Type 0 where
  pub names_are : instances.names ≡ map (λ (i : Instance). i.name) list
  pub blocks_are : instances.blocks.items ≡ map (λ (i : Instance). i.of) list

-- how many cells the globals have: one for each variable, and one for each element of an array
abbrev pub scope_globals : RoutineNames → ℕ
scope_globals scope = scope.globals.now.arrays.end

-- the number of the variable of a name, where the globals have the first numbers and the routine's own variables those after them
abbrev pub scope_variable : RoutineNames → List ℕ → ℕ
scope_variable scope name = unwrap_or (own_or_global (scope_globals scope) (find_name scope.own.now.names name) (find_name scope.globals.now.names name)) 0

-- the kind of the variable of a name
abbrev pub scope_kind : RoutineNames → List ℕ → Kind
scope_kind scope name = unwrap_or (or_other (kind_among scope.own.now name) (kind_among scope.globals.now name)) kind.Bool

-- the number of the array of a name, that of its first element: the global arrays follow the global variables, and the routine's own arrays its own variables
abbrev pub scope_array : RoutineNames → List ℕ → ℕ
scope_array scope name =
    unwrap_or (own_or_global (scope_globals scope) (first_among scope.own.now.arrays name) (first_among scope.globals.now.arrays name)) 0

-- the array of a name: one of the routine's own hides a global one
abbrev pub array_in : RoutineNames → List ℕ → Option Laid
array_in scope name = or_other (array_among scope.own.now.arrays name) (array_among scope.globals.now.arrays name)

-- the kind of its elements, and its bounds
abbrev pub scope_element_kind : RoutineNames → List ℕ → Kind
scope_element_kind scope name = option_map_or (λ (l : Laid). l.kind) (array_in scope name) kind.Bool

abbrev pub scope_bounds : RoutineNames → List ℕ → Bounds
scope_bounds scope name = option_map_or (λ (l : Laid). l.bounds) (array_in scope name) (record { low = pos 0; high = pos 0 })

-- the number of the instance of a name
abbrev pub scope_instance : RoutineNames → List ℕ → ℕ
scope_instance scope name = unwrap_or (find_name scope.instances.now.names name) 0

-- the number of a block type's own variable of a name, and its kind
abbrev pub own_number : List Variables → ℕ → List ℕ → Option ℕ
own_number members n name = option_and_then (λ (v : Variables). find_name v.names name) (slice_get members n)

abbrev pub own_kind_of : List Variables → ℕ → List ℕ → Option Kind
own_kind_of members n name = option_and_then (λ (v : Variables). kind_among v name) (slice_get members n)

-- the number of an input of a block
abbrev pub input_among : List Variables → Option BlockRef → List ℕ → Option ℕ
input_among members None name = None
input_among members (Some Ton) name = timer_number name
input_among members (Some Tof) name = timer_number name
input_among members (Some RTrig) name = if same_word name (codes "CLK") then Some 0 else None
input_among members (Some (Declared n)) name = own_number members n name

-- the number of an output of a block
abbrev pub output_among : List Variables → Option BlockRef → List ℕ → Option ℕ
output_among members None name = None
output_among members (Some Ton) name = timer_shows name
output_among members (Some Tof) name = timer_shows name
output_among members (Some RTrig) name = if same_word name (codes "Q") then Some 0 else None
output_among members (Some (Declared n)) name = own_number members n name

-- the kind of an output of a block
abbrev pub output_kind_by : List Variables → Option BlockRef → List ℕ → Kind
output_kind_by members None name = kind.Bool
output_kind_by members (Some Ton) name = if same_word name (codes "ET") then kind.Time else kind.Bool
output_kind_by members (Some Tof) name = if same_word name (codes "ET") then kind.Time else kind.Bool
output_kind_by members (Some RTrig) name = kind.Bool
output_kind_by members (Some (Declared n)) name = unwrap_or (own_kind_of members n name) kind.Bool

abbrev pub scope_input : RoutineNames → List ℕ → List ℕ → ℕ
scope_input scope instance name = unwrap_or (input_among scope.members.now (block_among scope.instances.now instance) name) 0

abbrev pub scope_output : RoutineNames → List ℕ → List ℕ → ℕ
scope_output scope instance name = unwrap_or (output_among scope.members.now (block_among scope.instances.now instance) name) 0

abbrev pub scope_output_kind : RoutineNames → List ℕ → List ℕ → Kind
scope_output_kind scope instance name = output_kind_by scope.members.now (block_among scope.instances.now instance) name

-- the kinds of the names
abbrev pub scope_kinds : RoutineNames → KindsOf (List ℕ)
scope_kinds scope = record { variable = scope_kind scope; output = scope_output_kind scope; element = scope_element_kind scope; bounds = scope_bounds scope }

-- the numbers in the places of the names
abbrev pub mapping_of : RoutineNames → Mapping (List ℕ) ℕ
mapping_of scope = record {
  variable = scope_variable scope;
  array = scope_array scope;
  instance = scope_instance scope;
  input_name = scope_input scope;
  output_name = scope_output scope;
  node = λ e. e;
}

module _ (scope : RoutineNames) where
  -- an expression over numbers, each operator chosen by the kind of its operands
  abbrev pub flat_expr : PlainExpr (List ℕ) → PlainExpr ℕ
  flat_expr e = mapped_expr (mapping_of scope) (resolved_expr (scope_kinds scope) e)

  abbrev pub flat_option : Option (PlainExpr (List ℕ)) → Option (PlainExpr ℕ)
  flat_option None = None
  flat_option (Some e) = Some (flat_expr e)

  abbrev pub flat_argument : List ℕ → PlainArgument (List ℕ) → PlainArgument ℕ
  flat_argument instance a = mapped_argument (mapping_of scope) instance (resolved_argument (scope_kinds scope) a)

  -- a statement over numbers, each operator chosen by the kind of its operands, the statements numbered from n on
  abbrev pub flat_stmt : ℕ → PlainStmt (List ℕ) → PlainStmt ℕ
  flat_stmt n s = mapped_stmt (mapping_of scope) (resolved_stmt (scope_kinds scope) (numbered_stmt n s))

  abbrev pub flat_body : ℕ → PlainBody (List ℕ) → PlainBody ℕ
  flat_body n body = mapped_body (mapping_of scope) (resolved_body (scope_kinds scope) (numbered n body))

  abbrev pub flat_branches : ℕ → Branches (List ℕ) → Branches ℕ
  flat_branches n branches = mapped_branches (mapping_of scope) (resolved_branches (scope_kinds scope) (numbered_branches n branches))

  abbrev pub flat_choices : ℕ → Choices (List ℕ) → Choices ℕ
  flat_choices n choices = mapped_choices (mapping_of scope) (resolved_choices (scope_kinds scope) (numbered_choices n choices))

-- what is known of the variables of each block type
pub record AreMembers (blocks : List PlainRoutine) (members : List Variables) : Type 0 where
  pub names_are : map (λ (v : Variables). v.names) members ≡ map (λ (b : PlainRoutine). local_names b.locals) blocks
  pub kinds_are : map (λ (v : Variables). v.kinds.items) members ≡ map (λ (b : PlainRoutine). local_kinds b.locals) blocks

-- a scope is that of a routine of a source
pub record IsScope (source : Source) (r : PlainRoutine) (scope : RoutineNames) : Type 0 where
  pub globals_are : AreVariables (global_variables source.globals) scope.globals.now
  pub global_arrays_are : AreArrays (length source.globals) source.rows scope.globals.now.arrays
  pub own_are : AreVariables (own_variables r.locals) scope.own.now
  pub own_arrays_are : AreArrays (length r.locals) r.rows scope.own.now.arrays
  pub instances_are : AreInstances r.instances scope.instances.now
  pub members_are : AreMembers source.blocks scope.members.now

-- a body over numbers is that of each routine whose scope it is
abbrev pub IsNumberedIn : RoutineNames → PlainBody (List ℕ) → PlainBody ℕ → Type 0
IsNumberedIn scope body flat = (source : Source) (r : PlainRoutine) → IsScope source r scope → flat ≡ mapped_body (numbers source r) (meant_in source r body)
