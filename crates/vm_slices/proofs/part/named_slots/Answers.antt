use Rattle.std.proofs.Common.{◌≡◌, ◌<◌, ℕ, List, [], length, map, get_or, Some, ap, sym, ◌∙◌, subst, arith, inr}
use Rattle.std.specs.Prelude.{slice_get, IsPermutation}
use Rattle.vm_slices.specs.Slots.{SomeHas, slots_written, slots_read, Names, Writes}
use Rattle.vm_slices.specs.Noting.{AreOnce, Notes}
use Rattle.vm_slices.specs.Ascending.{Rises, IsAscendingOf}
use Rattle.vm_slices.proofs.Rising.{has_at, no_more}
use Rattle.vm_slices.proofs.Made.{none_once, names_below, written_sorted, named_sorted, slots_are}
use Rattle.vm_slices.proofs.part.named_slots.Goals as goal

pub note_read-requires-clause-once : goal.note_read-requires-clause-once
note_read-requires-clause-once c =
    let noted : Notes (SomeHas slots_written c.args.instrs.now) c.args.places.now c.new-slots.result.items c.note_written.new.places c.note_written.new.numbers.items = c.in_ok-note_written.ensures in
    let empty : c.new-slots.result.items ≡ [] = c.new-slots.ensures.items in
    noted.once (subst (AreOnce c.args.places.now) (sym empty) (none_once c.args.places.now))

pub give_places-requires : goal.give_places-requires
give_places-requires c =
    let code = c.args.instrs.now in
    let empty : c.new-slots.result.items ≡ [] = c.new-slots.ensures.items in
    let first : Notes (SomeHas slots_written code) c.args.places.now [] c.note_written.new.places c.note_written.new.numbers.items
    = subst (λ (xs : List ℕ). Notes (SomeHas slots_written code) c.args.places.now xs c.note_written.new.places c.note_written.new.numbers.items) empty c.in_ok-note_written.ensures in
    let next : Notes (SomeHas slots_read code) c.note_written.new.places c.note_written.new.numbers.items c.note_read.new.places c.note_read.new.numbers.items = c.in_ok-note_read.ensures in
    let slots : List ℕ = c.sort_unstable-2.new.self.items in
    let named : IsAscendingOf (Names code) slots
    = named_sorted code c.args.places.now c.note_written.new.places c.note_read.new.places c.note_written.new.numbers.items c.note_read.new.numbers.items first next slots c.sort_unstable-2.ensures.permutation c.sort_unstable-2.ensures.sorted in
    let n : ℕ = length c.args.places.now in
    let below : (i s : ℕ) → slice_get slots i ≡ Some s → s < n = λ i s at. names_below n code c.requires.there s (named.only s (has_at slots i s at)) in
    let most = no_more slots n named.rise below in
    let one = first.size in let two = next.size in
    record {
      inside = λ i s at. let low = below i s (ap (λ xs. slice_get xs i) (sym c.deref.ensures.value) ∙ at) in omega (arith, low, one, two);
      few = let few = c.requires.few in omega (arith, most, few, ap length c.deref.ensures.value);
      rise = subst Rises (sym c.deref.ensures.value) named.rise;
    }

pub places_of-requires : goal.places_of-requires
places_of-requires c = record {
  inside = λ i s at.
      let code = c.args.instrs.now in
      let empty : c.new-slots.result.items ≡ [] = c.new-slots.ensures.items in
      let first : Notes (SomeHas slots_written code) c.args.places.now [] c.note_written.new.places c.note_written.new.numbers.items
      = subst (λ (xs : List ℕ). Notes (SomeHas slots_written code) c.args.places.now xs c.note_written.new.places c.note_written.new.numbers.items) empty c.in_ok-note_written.ensures in
      let next : Notes (SomeHas slots_read code) c.note_written.new.places c.note_written.new.numbers.items c.note_read.new.places c.note_read.new.numbers.items = c.in_ok-note_read.ensures in
      let wanted : List ℕ = c.sort_unstable.new.self.items in
      let moved : IsPermutation c.note_written.new.numbers.items wanted
      = subst (λ (xs : List ℕ). IsPermutation xs wanted) (c.in_ok-wanted.ensures.items ∙ c.as_slice.ensures.value) c.sort_unstable.ensures.permutation in
      let writes : IsAscendingOf (Writes code) wanted
      = written_sorted code c.args.places.now c.note_written.new.places c.note_read.new.places c.note_written.new.numbers.items c.note_read.new.numbers.items first next wanted moved c.sort_unstable.ensures.sorted in
      let low = names_below (length c.args.places.now) code c.requires.there s (record { some = inr (writes.only s (has_at wanted i s (ap (λ xs. slice_get xs i) (sym c.deref-2.ensures.value) ∙ at))).some }) in
      omega (arith, low, first.size, next.size, c.give_places.ensures.size);
}

pub returns : goal.returns
returns c =
    let code = c.args.instrs.now in
    let empty : c.new-slots.result.items ≡ [] = c.new-slots.ensures.items in
    let first : Notes (SomeHas slots_written code) c.args.places.now [] c.note_written.new.places c.note_written.new.numbers.items
    = subst (λ (xs : List ℕ). Notes (SomeHas slots_written code) c.args.places.now xs c.note_written.new.places c.note_written.new.numbers.items) empty c.in_ok-note_written.ensures in
    let next : Notes (SomeHas slots_read code) c.note_written.new.places c.note_written.new.numbers.items c.note_read.new.places c.note_read.new.numbers.items = c.in_ok-note_read.ensures in
    let slots : List ℕ = c.sort_unstable-2.new.self.items in
    let named : IsAscendingOf (Names code) slots
    = named_sorted code c.args.places.now c.note_written.new.places c.note_read.new.places c.note_written.new.numbers.items c.note_read.new.numbers.items first next slots c.sort_unstable-2.ensures.permutation c.sort_unstable-2.ensures.sorted in
    let wanted : List ℕ = c.sort_unstable.new.self.items in
    let moved : IsPermutation c.note_written.new.numbers.items wanted
    = subst (λ (xs : List ℕ). IsPermutation xs wanted) (c.in_ok-wanted.ensures.items ∙ c.as_slice.ensures.value) c.sort_unstable.ensures.permutation in
    let writes : IsAscendingOf (Writes code) wanted
    = written_sorted code c.args.places.now c.note_written.new.places c.note_read.new.places c.note_written.new.numbers.items c.note_read.new.numbers.items first next wanted moved c.sort_unstable.ensures.sorted in
    slots_are code c.give_places.new.places slots wanted c.in_ok-written.written.items named writes
    (λ i s at. c.give_places.ensures.placed i s (ap (λ xs. slice_get xs i) c.deref.ensures.value ∙ at)) (c.in_ok-written.ensures ∙ ap (map (λ s. get_or c.give_places.new.places s 0)) c.deref-2.ensures.value)
