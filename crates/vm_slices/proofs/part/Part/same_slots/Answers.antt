use Rattle.std.proofs.Common.{◌≡◌, refl, ap, sym, ◌∙◌}
use Rattle.vm_slices.specs.Parts.{PlainPart}
use Rattle.vm_slices.specs.Pieces.{slots_in, places_in}
use Rattle.vm_slices.proofs.part.Part.same_slots.Goals as goal

-- same pieces spell out the same slots, and the same places of those that are written
pub returns-then-same_pieces-2 : goal.returns-then-same_pieces-2
returns-then-same_pieces-2 c =
    let mine = c.self.inside in let its = c.other.inside in
    let all : mine.pieces.items ≡ its.pieces.items = sym c.deref.ensures.value ∙ c.if-same_pieces.ensures.0 refl ∙ c.deref-2.ensures.value in
    let put : mine.written_pieces.items ≡ its.written_pieces.items = sym c.deref-then-same_pieces.ensures.value ∙ c.if-same_pieces-2.ensures.0 refl ∙ c.deref-then-same_pieces-2.ensures.value in
    let slots : mine.slots.items ≡ its.slots.items = sym c.self.invariant.1.all_are ∙ ap slots_in all ∙ c.other.invariant.1.all_are in
    let written : mine.written.items ≡ its.written.items = sym c.self.invariant.1.put_are.places_are ∙ ap places_in put ∙ c.other.invariant.1.put_are.places_are in
    let same_slots = sym (ap (λ (p : PlainPart). p.slots) c.self.view_is) ∙ slots ∙ ap (λ (p : PlainPart). p.slots) c.other.view_is in
    let same_written = sym (ap (λ (p : PlainPart). p.written) c.self.view_is) ∙ written ∙ ap (λ (p : PlainPart). p.written) c.other.view_is in
    (λ _. (same_slots, same_written), λ _. refl)
