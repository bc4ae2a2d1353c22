-- A source, as contracts see it.
use Rattle.std.specs.Prelude.{ℕ, ◌+◌, List, length, map}
use Rattle.std.specs.List.{sum_by}
use Rattle.plant_types.specs.Values.{row_length}
use Rattle.logic_source.specs.declared.logic.Logic.{Logic}
use Rattle.logic_source.specs.declared.logic.Routine.{Routine}
use Rattle.logic_source.specs.declared.logic.Variable.{Variable}
use Rattle.logic_source.specs.declared.logic.Local.{Local}
use Rattle.logic_source.specs.declared.logic.Row.{Row}
use Rattle.logic_source.specs.declared.logic.Instance.{Instance}
use Rattle.st_tree.specs.Plain.{PlainBody}
use Rattle.st_tree.specs.View.{view_body}

-- a program or a block type: its name as declared, its own variables, its own arrays and its instances in order of declaration, an assignment for each initial value that is written for a variable of its own, and its body
pub record PlainRoutine : Type 0 where
  pub name : List ℕ
  pub locals : List Local
  pub rows : List Row
  pub instances : List Instance
  pub starts : PlainBody (List ℕ)
  pub body : PlainBody (List ℕ)

-- the globals and the global arrays in order of declaration, an assignment for each initial value that is written for one of these, and the programs and the block types, each in order of text
pub record Source : Type 0 where
  pub globals : List Variable
  pub rows : List Row
  pub starts : PlainBody (List ℕ)
  pub programs : List PlainRoutine
  pub blocks : List PlainRoutine

-- how many cells arrays have together: one for each element
abbrev pub row_cells : List Row → ℕ
row_cells rows = sum_by (λ (row : Row). row_length row.bounds) rows

-- how many cells the own variables of a routine have, which are the first of its cells: one each, and behind these one for each element of its own arrays
abbrev pub own_cells : PlainRoutine → ℕ
own_cells r = length r.locals + row_cells r.rows

-- how many cells the globals of a source have, which are the first of all cells: one each, and behind these one for each element of the global arrays
abbrev pub global_cells : Source → ℕ
global_cells source = length source.globals + row_cells source.rows

abbrev pub view_routine : Routine → PlainRoutine
view_routine r = record { name = r.name; locals = r.locals.items; rows = r.rows.items; instances = r.instances.items; starts = view_body r.starts.items; body = view_body r.body.items }

-- the source of a Logic
abbrev pub source_of : Logic → Source
source_of logic = record {
  globals = logic.globals.items;
  rows = logic.rows.items;
  starts = view_body logic.starts.items;
  programs = map view_routine logic.programs.items;
  blocks = map view_routine logic.blocks.items;
}
