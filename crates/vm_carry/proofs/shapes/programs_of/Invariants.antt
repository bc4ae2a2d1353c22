use Rattle.std.proofs.Common.{◌≡◌, List, map, take}
use Rattle.base_words.specs.Names.{find_name}
use Rattle.logic_source.specs.Source.{PlainRoutine}
use Rattle.vm_logic.specs.Headings.{heading_of, view_heading}
use Rattle.logic_carry.specs.Paths.{Grows}
use Rattle.logic_carry.specs.Shapes.{ArePrograms}
use Rattle.vm_carry.proofs.shapes.programs_of.Given as goal

-- those so far have their numbers, and no name has another one
abbrev pub invariant-loop-heading : goal.invariant-loop-heading
invariant-loop-heading l = record {
  are : (rs : List PlainRoutine) → map view_heading l.headings ≡ map heading_of rs → ArePrograms (find_name l.names) l.programs.items (take l.heading-index rs);
  grows : Grows (find_name l.initial.names) (find_name l.names);
}
