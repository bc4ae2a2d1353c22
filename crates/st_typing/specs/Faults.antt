-- Why sources aren't well formed: the fault of least number, in the first unit, in order of text, that has it.
use Rattle.std.specs.Prelude.{◌≡◌, ⊤, ℕ, ◌+◌, Bool, true, false, ◌||◌, if◌then◌else◌, nat_lt, List, [], ◌∷◌, Option, Some, None, slice_get, Vec}
use Rattle.std.specs.Global.{Global}
use Rattle.std.specs.List.{list_any}
use Rattle.plant_types.specs.Values.{row_length}
use Rattle.st_names.specs.Sort.{Sort}
use Rattle.st_names.specs.Sort.TheVariants as sort
use Rattle.st_names.specs.Units.{PlainSection, PlainPou, PlainUnit}
use Rattle.st_blocks.specs.Blocks.{PlainBlock, NoneHoldsItself, NoneTooDeep, TooDeep, AreOrdered}
use Rattle.st_blocks.specs.Faults.{IsNestingFault}
use Rattle.st_blocks.specs.declared.faults.NestingFault.TheVariants as order_fault
use Rattle.st_names.specs.declared.place.UnitPlace.{UnitPlace}
use Rattle.st_names.specs.DeclaredNames.{PlainDeclared, declared_in}
use Rattle.st_names.specs.Shared.{is_block}
use Rattle.st_names.specs.Faults.{first_unit, first_misnamed}
use Rattle.st_typing.specs.Kinds.{globals_misfit, pou_misfit}
use Rattle.st_typing.specs.Constants.{globals_inconstant, pou_inconstant, pou_long}
use Rattle.st_typing.specs.Blocks.{blocks_of, block_places}
use Rattle.st_typing.specs.declared.fault.TypeFault.{TypeFault}
use Rattle.st_typing.specs.declared.fault.TypeFault.TheVariants as fault

-- the first unit with something of another kind than it must have
abbrev pub first_misfit : List PlainUnit → Option UnitPlace
first_misfit units = first_unit (globals_misfit units) (pou_misfit units) 0 units

-- the first unit with an initial value, a bound or a step that isn't constant or traps, a control variable that isn't allowed, or an array whose low bound is above its high one
abbrev pub first_inconstant : List PlainUnit → Option UnitPlace
first_inconstant units = first_unit globals_inconstant pou_inconstant 0 units

-- a FOR has too many turns
abbrev pub some_long : List PlainUnit → Bool
some_long units = list_any (λ u. list_any pou_long u.pous) units

-- how many programs stand among a source's blocks and programs
abbrev pub programs_among : List PlainPou → ℕ
programs_among [] = 0
programs_among (p ∷ ps) = if is_block p.kind then programs_among ps else 1 + programs_among ps

-- how many programs there are
abbrev pub program_count : List PlainUnit → ℕ
program_count [] = 0
program_count (u ∷ us) = programs_among u.pous + program_count us

-- there are more than 512 programs
abbrev pub too_many : List PlainUnit → Bool
too_many units = nat_lt 512 (program_count units)

-- what is declared is an array of more than 4,096 elements
abbrev pub sort_wide : Sort → Bool
sort_wide (sort.Kind k) = false
sort_wide (sort.Block word) = false
sort_wide (sort.Array bounds k) = nat_lt 4096 (row_length bounds)

abbrev pub is_wide : PlainDeclared → Bool
is_wide d = sort_wide d.sort

-- sections declare such an array
abbrev pub sections_wide : List PlainSection → Bool
sections_wide sections = list_any is_wide (declared_in sections)

-- a source does, among its globals or in a block or program
abbrev pub unit_wide : PlainUnit → Bool
unit_wide u = sections_wide u.globals || list_any (λ p. sections_wide p.sections) u.pous

-- an array has more than 4,096 elements
abbrev pub some_wide : List PlainUnit → Bool
some_wide units = list_any unit_wide units

-- the first function block that holds itself
abbrev pub FirstToHoldItself : List PlainUnit → UnitPlace → Type 0
FirstToHoldItself units place = (i : ℕ) × (slice_get (block_places 0 units) i ≡ Some place) × IsNestingFault (blocks_of units) (order_fault.HoldsItself i)

-- each name of the sources stands for something, and none is taken
pub record AreNamed (units : List PlainUnit) : Type 0 where
  pub names : first_misnamed units ≡ None

-- and everything has the kind that it must have
pub record AreKinded (units : List PlainUnit) : Type 0 where
  pub named : AreNamed units
  pub kinds : first_misfit units ≡ None

-- and no function block holds itself
pub record AreApart (units : List PlainUnit) : Type 0 where
  pub kinded : AreKinded units
  pub apart : NoneHoldsItself (blocks_of units)

-- and initial values, bounds and steps are constant and allowed, so are control variables, and no low bound of an array is above its high one
pub record AreConstant (units : List PlainUnit) : Type 0 where
  pub are_apart : AreApart units
  pub constants : first_inconstant units ≡ None

-- and no FOR has too many turns
pub record AreShort (units : List PlainUnit) : Type 0 where
  pub constant : AreConstant units
  pub short : some_long units ≡ false

-- and no function block is nested too deep
pub record AreShallow (units : List PlainUnit) : Type 0 where
  pub are_short : AreShort units
  pub shallow : NoneTooDeep (blocks_of units)

-- and there are not too many programs
pub record AreFew (units : List PlainUnit) : Type 0 where
  pub are_shallow : AreShallow units
  pub few : too_many units ≡ false

-- and no array has too many elements: the sources are well formed
pub record AreTyped (units : List PlainUnit) : Type 0 where
  pub are_few : AreFew units
  pub small : some_wide units ≡ false

-- sources are well formed, and their function blocks are in an order in which each stands after those that it declares
pub record IsTyped (units : List PlainUnit) (order : List ℕ) : Type 0 where
  pub typed : AreTyped units
  pub ordered : AreOrdered (blocks_of units) order

-- a function block is nested too deep
abbrev pub SomeTooDeep : List PlainBlock → Type 0
SomeTooDeep blocks = (i : ℕ) × (block : PlainBlock) × (slice_get blocks i ≡ Some block) × TooDeep blocks block

-- why sources aren't well formed, Memory apart
abbrev pub IsTypeFault : List PlainUnit → TypeFault → Type 0
IsTypeFault units fault.Memory = ⊤
IsTypeFault units (fault.Name place) = first_misnamed units ≡ Some place
IsTypeFault units (fault.Kind place) = AreNamed units × (first_misfit units ≡ Some place)
IsTypeFault units (fault.HoldsItself place) = AreKinded units × FirstToHoldItself units place
IsTypeFault units (fault.Constant place) = AreApart units × (first_inconstant units ≡ Some place)
IsTypeFault units fault.Turns = AreConstant units × (some_long units ≡ true)
IsTypeFault units fault.BlockDepth = AreShort units × SomeTooDeep (blocks_of units)
IsTypeFault units fault.Programs = AreShallow units × (too_many units ≡ true)
IsTypeFault units fault.Elements = AreFew units × (some_wide units ≡ true)

-- the function blocks are in an order in which each stands after those that it declares, or one of them is nested too deep
abbrev pub OrderedOrDeep : List PlainBlock → Option (Vec ℕ Global) → Type 0
OrderedOrDeep blocks (Some order) = AreOrdered blocks order.items
OrderedOrDeep blocks None = SomeTooDeep blocks

-- no function block holds itself, and they are in an order, or one of them is nested too deep
pub record IsNested (units : List PlainUnit) (order : Option (Vec ℕ Global)) : Type 0 where
  pub are_apart : AreApart units
  pub ordered : OrderedOrDeep (blocks_of units) order
