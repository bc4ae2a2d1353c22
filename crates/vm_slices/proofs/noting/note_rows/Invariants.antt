use Rattle.std.proofs.Common.{ℕ}
use Rattle.vm_slices.specs.Noting.{IsNoted, Notes, IsInRow}
use Rattle.vm_slices.proofs.Places.{IsInFirst}
use Rattle.vm_slices.proofs.noting.note_rows.Given as goal

abbrev pub invariant-loop-row : goal.invariant-loop-row
invariant-loop-row l = record {
  noted : Notes (IsInFirst l.rows l.row-index) l.fn.places l.fn.numbers.items l.places l.numbers.items;
  last : (s : ℕ) → IsInRow l.last s → IsNoted l.places l.numbers.items s;
}
