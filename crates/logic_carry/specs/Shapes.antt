-- Routines without their statements, by the numbers of their words.
use Rattle.std.specs.Prelude.{◌≡◌, ◌<◌, ◌+◌, ℕ, Option, Some, List, [], ◌∷◌, map, codes}
use Rattle.plant_types.specs.Values.{row_length}
use Rattle.plant_types.specs.declared.values.Kind.TheVariants as kind
use Rattle.logic_source.specs.declared.logic.Variable.{Variable}
use Rattle.logic_source.specs.declared.logic.Local.{Local}
use Rattle.logic_source.specs.declared.logic.Row.{Row}
use Rattle.logic_source.specs.declared.logic.Instance.{Instance}
use Rattle.logic_source.specs.Source.{PlainRoutine, Source}
use Rattle.logic_carry.specs.Paths.{IsIndex}
use Rattle.logic_carry.specs.Marks.{AreMarked}
use Rattle.logic_carry.specs.declared.words.Own.{Own}
use Rattle.logic_carry.specs.declared.words.OwnRow.{OwnRow}
use Rattle.logic_carry.specs.declared.words.NamedInstance.{NamedInstance}
use Rattle.logic_carry.specs.declared.words.Shape.{Shape}
use Rattle.logic_carry.specs.declared.lists.TypeTable.{TypeTable}
use Rattle.logic_carry.specs.declared.lists.Program.{Program}
use Rattle.logic_carry.specs.declared.lists.SourceShape.{SourceShape}

-- a name has the number of its word, which is below those that stand for elements of arrays
pub record IsNumbered (words : List ℕ → Option ℕ) (name : List ℕ) (word : ℕ) : Type 0 where
  pub found : words name ≡ Some word
  pub small : word < 9223372036854775808

-- these are variables with the numbers of their words and their kinds, in order
abbrev pub AreOwn : (List ℕ → Option ℕ) → List Own → List Local → Type 0
AreOwn words [] [] = Unit {0}
AreOwn words [] (l ∷ ls) = ⊥
AreOwn words (o ∷ os) [] = ⊥
AreOwn words (o ∷ os) (l ∷ ls) = IsNumbered words l.name o.word × (o.kind ≡ l.kind) × AreOwn words os ls

-- a global variable as one of a routine's own
abbrev pub as_local : Variable → Local
as_local global = record { name = global.name; kind = global.kind }

-- an array's low bound and its length are told by how far its first element is from the least index, and its last one from the first
pub record IsMeasured (o : OwnRow) : Type 0 where
  pub first_is : IsIndex o.bounds.low o.first
  pub last_is : o.last + 1 ≡ row_length o.bounds

-- this is an array with the number of its word, its kind, its bounds and its measures
pub record IsRow (words : List ℕ → Option ℕ) (o : OwnRow) (row : Row) : Type 0 where
  pub named : IsNumbered words row.name o.word
  pub kind_is : o.kind ≡ row.kind
  pub bounds_are : o.bounds ≡ row.bounds
  pub measured : IsMeasured o

-- these are arrays, in order
abbrev pub AreRows : (List ℕ → Option ℕ) → List OwnRow → List Row → Type 0
AreRows words [] [] = Unit {0}
AreRows words [] (row ∷ rows) = ⊥
AreRows words (o ∷ os) [] = ⊥
AreRows words (o ∷ os) (row ∷ rows) = IsRow words o row × AreRows words os rows

-- this is an instance with the number of its word and what it is of
pub record IsPart (words : List ℕ → Option ℕ) (p : NamedInstance) (i : Instance) : Type 0 where
  pub named : IsNumbered words i.name p.word
  pub of_is : p.of ≡ i.of

-- these are instances, in order
abbrev pub AreParts : (List ℕ → Option ℕ) → List NamedInstance → List Instance → Type 0
AreParts words [] [] = Unit {0}
AreParts words [] (i ∷ is) = ⊥
AreParts words (p ∷ ps) [] = ⊥
AreParts words (p ∷ ps) (i ∷ is) = IsPart words p i × AreParts words ps is

-- a shape is that of a routine
pub record IsShape (words : List ℕ → Option ℕ) (shape : Shape) (r : PlainRoutine) : Type 0 where
  pub own : AreOwn words shape.own.items r.locals
  pub rows : AreRows words shape.rows.items r.rows
  pub parts : AreParts words shape.parts.items r.instances

-- shapes are those of routines, in order
abbrev pub AreShapes : (List ℕ → Option ℕ) → List Shape → List PlainRoutine → Type 0
AreShapes words [] [] = Unit {0}
AreShapes words [] (r ∷ rs) = ⊥
AreShapes words (s ∷ ss) [] = ⊥
AreShapes words (s ∷ ss) (r ∷ rs) = IsShape words s r × AreShapes words ss rs

-- these are programs with the numbers of their words, in order
abbrev pub ArePrograms : (List ℕ → Option ℕ) → List Program → List PlainRoutine → Type 0
ArePrograms words [] [] = Unit {0}
ArePrograms words [] (r ∷ rs) = ⊥
ArePrograms words (p ∷ ps) [] = ⊥
ArePrograms words (p ∷ ps) (r ∷ rs) = IsNumbered words r.name p.word × IsShape words p.shape r × ArePrograms words ps rs

-- the inputs of a timer as variables: IN, a BOOL, and PT, a TIME
abbrev pub timer_inputs : List Local
timer_inputs = record { name = codes "IN"; kind = kind.Bool } ∷ record { name = codes "PT"; kind = kind.Time } ∷ []

-- the input of an edge detector: CLK, a BOOL
abbrev pub trigger_inputs : List Local
trigger_inputs = record { name = codes "CLK"; kind = kind.Bool } ∷ []

-- a table is that of block types, of which those that are marked hold nothing
pub record AreTable (words : List ℕ → Option ℕ) (table : TypeTable) (blocks : List PlainRoutine) : Type 0 where
  pub blocks_are : AreShapes words table.blocks.items blocks
  pub marked : AreMarked table.marks.items table.blocks.items
  pub timer_is : AreOwn words table.timer.items timer_inputs
  pub trigger_is : AreOwn words table.trigger.items trigger_inputs

-- a shape is that of a source
pub record IsSourceShape (words : List ℕ → Option ℕ) (shape : SourceShape) (source : Source) : Type 0 where
  pub globals : AreOwn words shape.globals.items (map as_local source.globals)
  pub rows : AreRows words shape.rows.items source.rows
  pub programs : ArePrograms words shape.programs.items source.programs
  pub table : AreTable words shape.table source.blocks
