use Rattle.std.proofs.Common.{◌+◌, ℕ, List, Contains, ap, sym, ◌∙◌, subst, arith}
use Rattle.std.specs.Prelude.{slice_get}
use Rattle.std.proofs.lemmas.Option.{none-some}
use Rattle.vm_slices.specs.declared.pieces.Piece.{Piece}
use Rattle.vm_slices.specs.Parts.{PlainPart}
use Rattle.vm_slices.proofs.Rising.{stands_at}
use Rattle.vm_slices.proofs.Spelled.{slot_in}
use Rattle.vm_slices.proofs.part.Part.load.Goals as goal

pub pick-requires-clause-slots : goal.pick-requires-clause-slots
pick-requires-clause-slots c = λ i s at. absurd (none-some s at)

pub pick_values-done-requires : goal.pick_values-done-requires
pick_values-done-requires c = λ i q at.
    let inside = c.self.inside in
    let here = ap (λ (xs : List Piece). slice_get xs i) (sym c.deref.ensures.value) ∙ at in
    let has : Contains inside.slots.items (q.first + q.more) = subst (λ (l : List ℕ). Contains l (q.first + q.more)) c.self.invariant.1.all_are (slot_in inside.pieces.items i q.more q here (omega arith)) in
    let stands = stands_at inside.slots.items (q.first + q.more) has in
    c.requires.slots stands.0 (q.first + q.more) (ap (λ (p : PlainPart). slice_get p.slots stands.0) (sym c.self.view_is) ∙ stands.1)

pub pick-requires-clause-clocks : goal.pick-requires-clause-clocks
pick-requires-clause-clocks c = λ i k at. c.requires.clocks i k (ap (λ xs. slice_get xs i) (sym c.clocks.ensures) ∙ at)
