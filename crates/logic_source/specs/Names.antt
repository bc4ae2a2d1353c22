-- Names in a routine, and what they name: its own variables hide globals.
use Rattle.std.specs.Prelude.{ℕ, pos, Bool, ◌&&◌, List, map, position, Option, option_map, option_and_then, unwrap_or, slice_get, if◌then◌else◌, None, Some, codes}
use Rattle.std.specs.Option.{option_map_or}
use Rattle.std.specs.Ordering.{int_eq}
use Rattle.std.specs.Str.{bytes_eq}
use Rattle.plant_types.specs.Words.{folded, same_word}
use Rattle.plant_types.specs.declared.values.Bounds.{Bounds}
use Rattle.plant_types.specs.declared.values.Kind.{Kind}
use Rattle.plant_types.specs.declared.values.Kind.TheVariants as kind
use Rattle.st_tree.specs.Plain.{PlainBody}
use Rattle.st_tree.specs.Kinds.{KindsOf, meant}
use Rattle.st_typing.specs.Scopes.{or_other}
use Rattle.logic_source.specs.declared.logic.Variable.{Variable}
use Rattle.logic_source.specs.declared.logic.Local.{Local}
use Rattle.logic_source.specs.declared.logic.Row.{Row}
use Rattle.logic_source.specs.declared.logic.Instance.{Instance}
use Rattle.logic_source.specs.declared.logic.BlockRef.{BlockRef}
use Rattle.logic_source.specs.declared.logic.BlockRef.TheVariants.{Ton, Tof, RTrig, Declared}
use Rattle.logic_source.specs.Source.{PlainRoutine, Source}

-- the globals' names in small letters, in order of declaration
abbrev pub global_words : List Variable → List (List ℕ)
global_words globals = map (λ (global : Variable). folded global.name) globals

-- the names of a routine's own variables in small letters, in order of declaration
abbrev pub own_words : List Local → List (List ℕ)
own_words locals = map (λ (local : Local). folded local.name) locals

-- the names of arrays in small letters, in order of declaration
abbrev pub row_words : List Row → List (List ℕ)
row_words rows = map (λ (row : Row). folded row.name) rows

-- the names of a routine's instances in small letters, in order of declaration
abbrev pub instance_words : List Instance → List (List ℕ)
instance_words instances = map (λ (i : Instance). folded i.name) instances

-- the index of a name, in any letter case, in a list of names in small letters
abbrev pub find_word : List (List ℕ) → List ℕ → Option ℕ
find_word words name = position (bytes_eq (folded name)) words

-- the number, from 0, of the first global of a name
abbrev pub find_global : List Variable → List ℕ → Option ℕ
find_global globals name = find_word (global_words globals) name

-- the routine's own variable of a name
abbrev pub local_named : PlainRoutine → List ℕ → Option Local
local_named r name = option_and_then (slice_get r.locals) (find_word (own_words r.locals) name)

-- the array of a name, of these
abbrev pub row_named : List Row → List ℕ → Option Row
row_named rows name = option_and_then (slice_get rows) (find_word (row_words rows) name)

-- the array of a name in a routine of a source: one of its own hides a global one
abbrev pub array_named : Source → PlainRoutine → List ℕ → Option Row
array_named source r name = or_other (row_named r.rows name) (row_named source.rows name)

-- the routine's instance of a name
abbrev pub instance_named : PlainRoutine → List ℕ → Option Instance
instance_named r name = option_and_then (slice_get r.instances) (find_word (instance_words r.instances) name)

-- what the routine's instance of a name is of
abbrev pub block_named : PlainRoutine → List ℕ → Option BlockRef
block_named r name = option_map (λ (i : Instance). i.of) (instance_named r name)

-- the kind of the routine's own variable of a name
abbrev pub own_kind : PlainRoutine → List ℕ → Option Kind
own_kind r name = option_map (λ (l : Local). l.kind) (local_named r name)

-- the kind of the global of a name
abbrev pub global_kind : List Variable → List ℕ → Option Kind
global_kind globals name = option_map (λ (g : Variable). g.kind) (option_and_then (slice_get globals) (find_global globals name))

-- the kind of a variable: the routine's own of the name, else the global; BOOL if there is none
abbrev pub kind_named : List Variable → PlainRoutine → List ℕ → Kind
kind_named globals r name = unwrap_or (or_other (own_kind r name) (global_kind globals name)) kind.Bool

-- the kind of an output: ET of a standard block is a TIME and Q a BOOL, and that of a declared block type is the kind of its own variable of the name; BOOL if there is none
abbrev pub output_kind_of : List PlainRoutine → Option BlockRef → List ℕ → Kind
output_kind_of blocks None name = kind.Bool
output_kind_of blocks (Some Ton) name = if same_word name (codes "ET") then kind.Time else kind.Bool
output_kind_of blocks (Some Tof) name = if same_word name (codes "ET") then kind.Time else kind.Bool
output_kind_of blocks (Some RTrig) name = kind.Bool
output_kind_of blocks (Some (Declared n)) name = option_map_or (λ b. unwrap_or (own_kind b name) kind.Bool) (slice_get blocks n) kind.Bool

abbrev pub output_kind_named : List PlainRoutine → PlainRoutine → (instance name : List ℕ) → Kind
output_kind_named blocks r instance name = output_kind_of blocks (block_named r instance) name

-- two bounds are the same
abbrev pub same_bounds : Bounds → Bounds → Bool
same_bounds a b = int_eq a.low b.low && int_eq a.high b.high

-- the kind of the elements of an array; BOOL if there is none
abbrev pub element_kind_named : Source → PlainRoutine → List ℕ → Kind
element_kind_named source r name = option_map_or (λ (row : Row). row.kind) (array_named source r name) kind.Bool

-- the declared bounds of an array; those of a single element if there is none
abbrev pub bounds_named : Source → PlainRoutine → List ℕ → Bounds
bounds_named source r name = option_map_or (λ (row : Row). row.bounds) (array_named source r name) (record { low = pos 0; high = pos 0 })

-- the kinds of the names in a routine of a source
abbrev pub kinds_named : Source → PlainRoutine → KindsOf (List ℕ)
kinds_named source r = record { variable = kind_named source.globals r; output = output_kind_named source.blocks r; element = element_kind_named source r; bounds = bounds_named source r }

-- the body that is meant by the body or the initial values of a routine of a source: its statements are numbered from 1, each operator is that of its operands' kind, and each array has its declared bounds
abbrev pub meant_in : Source → PlainRoutine → PlainBody (List ℕ) → PlainBody (List ℕ)
meant_in source r body = meant (kinds_named source r) body
