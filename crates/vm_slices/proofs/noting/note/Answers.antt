use Rattle.std.proofs.Common.{◌≡◌, ◌∷◌, ◌++◌, [], true, false, length, get_or, ap, ◌∙◌, sym, refl, subst, arith}
use Rattle.std.specs.Prelude.{slice_get}
use Rattle.vm_slices.specs.Noting.{IsNoted}
use Rattle.vm_slices.proofs.Places.{notes_none, notes_one, room_more}
use Rattle.vm_slices.proofs.noting.note.Goals as goal

pub returns-then-is_noted : goal.returns-then-is_noted
returns-then-is_noted c =
    let noted : IsNoted c.args.places.now c.args.numbers.now.items c.args.number
    = sym (ap (λ xs. slice_get xs (get_or c.args.places.now c.args.number 0)) c.as_slice.ensures.value) ∙ c.if-is_noted.ensures.0 refl in
    notes_none (λ s. s ≡ c.args.number) c.args.places.now c.args.numbers.now.items (λ s e. subst (IsNoted c.args.places.now c.args.numbers.now.items) (sym e) noted)

pub overflow_cast-next : goal.overflow_cast-next
overflow_cast-next c =
    let e = c.len-next.ensures in let ok = c.args.numbers.now.ok.0 in
    let few = c.requires.few in
    let new : IsNoted c.args.places.now c.args.numbers.now.items c.args.number → ⊥
    = (λ noted. let h : false ≡ true = c.if-is_noted.ensures.1 (ap (λ xs. slice_get xs (get_or c.args.places.now c.args.number 0)) c.as_slice.ensures.value ∙ noted) in cc) in
    let room = room_more c.args.places.now c.args.numbers.now.items c.args.number c.requires.once c.requires.there new in
    omega arith

pub returns : goal.returns
returns c =
    let e : c.len-next.result ≡ length c.args.numbers.now.items = let h = c.len-next.ensures in let ok = c.args.numbers.now.ok.0 in omega (arith, h, ok) in
    let i : c.push.new.self.items ≡ c.args.numbers.now.items ++ c.args.number ∷ [] = c.in_ok-push.ensures.items in
    let new : IsNoted c.args.places.now c.args.numbers.now.items c.args.number → ⊥
    = (λ noted. let h : false ≡ true = c.if-is_noted.ensures.1 (ap (λ xs. slice_get xs (get_or c.args.places.now c.args.number 0)) c.as_slice.ensures.value ∙ noted) in cc) in
    rw (i, e) (notes_one c.args.places.now c.args.numbers.now.items c.args.number c.requires.there new)
