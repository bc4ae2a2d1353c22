-- Programs and block types without their statements.
use Rattle.std.specs.Prelude.{◌≡◌, ℕ, List, map}
use Rattle.logic_source.specs.declared.logic.Local.{Local}
use Rattle.logic_source.specs.declared.logic.Row.{Row}
use Rattle.logic_source.specs.declared.logic.Instance.{Instance}
use Rattle.logic_source.specs.Source.{PlainRoutine, Source}
use Rattle.vm_logic.specs.declared.headings.Heading.{Heading}

-- a routine's name as declared, its own variables, its own arrays and its instances
pub record PlainHeading : Type 0 where
  pub name : List ℕ
  pub locals : List Local
  pub rows : List Row
  pub instances : List Instance

-- the heading of a routine
abbrev pub heading_of : PlainRoutine → PlainHeading
heading_of r = record { name = r.name; locals = r.locals; rows = r.rows; instances = r.instances }

-- the plain heading of a heading
abbrev pub view_heading : Heading → PlainHeading
view_heading h = record { name = h.name; locals = h.locals.items; rows = h.rows.items; instances = h.instances.items }

-- these are the global arrays that a source declares, and the headings of its block types by their numbers
pub record AreDeclared (source : Source) (rows : List Row) (blocks : List Heading) : Type 0 where
  pub rows_are : rows ≡ source.rows
  pub blocks_are : map view_heading blocks ≡ map heading_of source.blocks
