use Rattle.std.proofs.Common.{◌≡◌, refl, subst}
use Rattle.acc_vm.specs.declared.instr.Row.{Row}
use Rattle.vm_slices.specs.Noting.{IsInRow}
use Rattle.vm_slices.proofs.Places.{notes_none}
use Rattle.vm_slices.proofs.noting.note_unless_same.Goals as goal

pub returns-then-same_row : goal.returns-then-same_row
returns-then-same_row c =
    let same : c.args.row ≡ c.args.last = c.if-same_row.ensures.0 refl in
    notes_none (IsInRow c.args.row) c.args.places.now c.args.numbers.now.items (λ s h. c.requires.noted s (subst (λ (r : Row). IsInRow r s) same h))
