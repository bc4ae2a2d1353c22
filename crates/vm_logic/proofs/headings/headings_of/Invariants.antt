use Rattle.std.proofs.Common.{◌≡◌, take, map}
use Rattle.logic_source.specs.Source.{view_routine}
use Rattle.vm_logic.specs.Headings.{heading_of, view_heading}
use Rattle.vm_logic.proofs.headings.headings_of.Given as goal

-- the headings so far are those of the routines so far
abbrev pub invariant-loop-routine : goal.invariant-loop-routine
invariant-loop-routine l = map view_heading l.headings.items ≡ map heading_of (map view_routine (take l.routine-index l.routines))
