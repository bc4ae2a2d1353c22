use Rattle.acc_vm.specs.Operands.{operands}
use Rattle.vm_slices.specs.Noting.{Notes}
use Rattle.vm_slices.proofs.Places.{HasBelow}
use Rattle.vm_slices.proofs.noting.note_read_alone.Given as goal

abbrev pub invariant-loop-i : goal.invariant-loop-i
invariant-loop-i l = Notes (HasBelow (λ i. (operands i).reads) l.instrs l.i-index) l.fn.places l.fn.numbers.items l.places l.numbers.items
