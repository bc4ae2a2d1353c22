use Rattle.vm_slices.specs.Slots.{clocks_of}
use Rattle.vm_slices.specs.Noting.{Notes}
use Rattle.vm_slices.proofs.Places.{HasBelow}
use Rattle.vm_slices.proofs.noting.note_clocks.Given as goal

abbrev pub invariant-loop-i : goal.invariant-loop-i
invariant-loop-i l = Notes (HasBelow clocks_of l.instrs l.i-index) l.fn.places l.fn.numbers.items l.places l.numbers.items
