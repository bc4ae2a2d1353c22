use Rattle.std.proofs.Common.{◌≡◌, [], subst, List, ℕ}
use Rattle.vm_slices.specs.Slots.{SomeHas, clocks_of}
use Rattle.vm_slices.specs.Noting.{Notes}
use Rattle.vm_slices.proofs.Made.{clocks_are}
use Rattle.vm_slices.proofs.part.named_clocks.Goals as goal

pub returns : goal.returns
returns c =
    let empty : c.new-clocks.result.items ≡ [] = c.new-clocks.ensures.items in
    clocks_are c.args.instrs.now c.args.places.now c.note_clocks.new.places c.note_clocks.new.numbers.items
    (subst (λ (xs : List ℕ). Notes (SomeHas clocks_of c.args.instrs.now) c.args.places.now xs c.note_clocks.new.places c.note_clocks.new.numbers.items) empty c.in_ok-note_clocks.ensures)
