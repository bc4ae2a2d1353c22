use Rattle.std.proofs.Common.{◌≤◌}
use Rattle.vm_slices.specs.Noting.{Notes}
use Rattle.vm_slices.proofs.Places.{IsBelow}
use Rattle.vm_slices.proofs.noting.note_row.Given as goal

abbrev pub invariant-loop-slot : goal.invariant-loop-slot
invariant-loop-slot l = record {
  low : l.fn.row.first ≤ l.slot;
  noted : Notes (IsBelow l.fn.row l.slot) l.fn.places l.fn.numbers.items l.places l.numbers.items;
}
