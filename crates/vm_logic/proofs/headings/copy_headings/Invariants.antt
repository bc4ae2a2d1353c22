use Rattle.std.proofs.Common.{◌≡◌, take, map}
use Rattle.vm_logic.specs.Headings.{view_heading}
use Rattle.vm_logic.proofs.headings.copy_headings.Given as goal

abbrev pub invariant-loop-heading : goal.invariant-loop-heading
invariant-loop-heading l = map view_heading l.copies.items ≡ map view_heading (take l.heading-index l.headings)
