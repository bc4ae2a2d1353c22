-- A unit as contracts see it.
use Rattle.std.specs.Prelude.{ℕ, List, map, Option, option_map}
use Rattle.plant_types.specs.declared.values.Region.{Region}
use Rattle.st_parser.specs.declared.unit.Declaration.{Declaration}
use Rattle.st_parser.specs.declared.unit.Pou.{Pou}
use Rattle.st_parser.specs.declared.unit.PouKind.{PouKind}
use Rattle.st_parser.specs.declared.unit.Section.{Section}
use Rattle.st_parser.specs.declared.unit.SectionKind.{SectionKind}
use Rattle.st_parser.specs.declared.unit.Sort.{Sort}
use Rattle.st_parser.specs.declared.unit.Unit.{Unit}
use Rattle.st_tree.specs.Plain.{PlainExpr, PlainBody}
use Rattle.st_tree.specs.View.{view_expr, view_body}

-- names declared together, where they lie, what they are, and their initial value
pub record PlainDeclaration : Type 0 where
  pub names : List (List ℕ)
  pub region : Option Region
  pub sort : Sort
  pub initial : Option (PlainExpr (List ℕ))

-- a section's declarations, in order of text
pub record PlainSection : Type 0 where
  pub kind : SectionKind
  pub declarations : List PlainDeclaration

-- a function block or a program
pub record PlainPou : Type 0 where
  pub kind : PouKind
  pub name : List ℕ
  pub sections : List PlainSection
  pub body : PlainBody (List ℕ)

-- sections of globals, then blocks and programs, in order of text
pub record PlainUnit : Type 0 where
  pub globals : List PlainSection
  pub pous : List PlainPou

abbrev pub view_declaration : Declaration → PlainDeclaration
view_declaration d = record { names = d.names.items; region = d.region; sort = d.sort; initial = option_map view_expr d.initial }

abbrev pub view_section : Section → PlainSection
view_section s = record { kind = s.kind; declarations = map view_declaration s.declarations.items }

abbrev pub view_pou : Pou → PlainPou
view_pou p = record { kind = p.kind; name = p.name; sections = map view_section p.sections.items; body = view_body p.body.items }

-- the plain unit of a unit
abbrev pub view_unit : Unit → PlainUnit
view_unit unit = record { globals = map view_section unit.globals.items; pous = map view_pou unit.pous.items }
