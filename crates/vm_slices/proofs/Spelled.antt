-- Pieces of slots: what is in them, and what one slot more makes of them.
use Rattle.std.proofs.Common.{◌≡◌, ◌<◌, ◌+◌, ◌-◌, ℕ, zero, suc, List, [], ◌∷◌, ◌++◌, map, length, get_or, set, take, drop, Some, refl, ap, sym, ◌∙◌, subst, arith, inl, inr, Contains}
use Rattle.std.specs.Prelude.{slice_get}
use Rattle.std.specs.List.{range_with_len, flat_map}
use Rattle.std.proofs.lemmas.List.{append-nil, append_assoc, map-append, length-map, get_or-map, get_or_append_left, take_more, map_more}
use Rattle.std.proofs.lemmas.List.Concat.{flat_map-append}
use Rattle.std.proofs.lemmas.List.FromFn.{length-range_with_len, get_or-range_with_len}
use Rattle.std.proofs.lemmas.List.Elements.{Contains-append_left, Contains-append_right, Contains-append_cases}
use Rattle.std.proofs.lemmas.Option.{same_Some, slice_get-get_or, none-some}
use Rattle.vm_slices.specs.declared.pieces.Piece.{Piece}
use Rattle.vm_slices.specs.Pieces.{piece_slots, piece_places, slots_in, places_in, AddsSlot, ArePiecesAt}
use Rattle.vm_slices.proofs.RowLaws.{range_has, range_of}

range_more : (a n : ℕ) → range_with_len a (suc n) ≡ range_with_len a n ++ (a + n) ∷ []
range_more a zero = let here : a ≡ a + 0 = omega arith in ap (λ k. k ∷ []) here
range_more a (suc n) = let on : a + 1 + n ≡ a + suc n = omega arith in ap (λ l. a ∷ l) (range_more (a + 1) n ∙ ap (λ k. range_with_len (a + 1) n ++ k ∷ []) on)

-- one number more behind a row of them
pub one_more : (a n x : ℕ) → x ≡ a + (n + 1) → range_with_len a (n + 1 + 1) ≡ range_with_len a (n + 1) ++ x ∷ []
one_more a n x e =
    let on : n + 1 + 1 ≡ suc (n + 1) = omega arith in
    ap (range_with_len a) on ∙ range_more a (n + 1) ∙ ap (λ k. range_with_len a (n + 1) ++ k ∷ []) (sym e)

-- the last piece tells one number more
grows : (rule : Piece → List ℕ) (pieces : List Piece) (i : ℕ) (last q : Piece) (x : ℕ) → i + 1 ≡ length pieces → slice_get pieces i ≡ Some last → rule q ≡ rule last ++ x ∷ []
    → flat_map rule (set pieces i q) ≡ flat_map rule pieces ++ x ∷ []
grows rule [] i last q x long at more = absurd (none-some _ at)
grows rule (p ∷ []) zero last q x long at more =
    append-nil (rule q) ∙ more ∙ ap (λ (l : Piece). rule l ++ x ∷ []) (sym (same_Some p last at)) ∙ ap (λ (l : List ℕ). l ++ x ∷ []) (sym (append-nil (rule p)))
grows rule (p ∷ r ∷ rest) zero last q x long at more = absurd (omega (arith, long))
grows rule (p ∷ rest) (suc i) last q x long at more =
    ap (λ (l : List ℕ). rule p ++ l) (grows rule rest i last q x (omega (arith, long)) at more) ∙ sym (append_assoc (rule p) (flat_map rule rest) (x ∷ []))

pub longer : (pieces : List Piece) (i : ℕ) (last : Piece) (place slot : ℕ) → i + 1 ≡ length pieces → slice_get pieces i ≡ Some last → place ≡ last.place + (last.more + 1) → slot ≡ last.first + (last.more + 1)
    → AddsSlot place slot pieces (set pieces i (record { place = last.place; first = last.first; more = last.more + 1 }))
longer pieces i last place slot long at next_place next_slot =
    let q : Piece = record { place = last.place; first = last.first; more = last.more + 1 } in
    record {
      slots = grows piece_slots pieces i last q slot long at (one_more last.first last.more slot next_slot);
      places = grows piece_places pieces i last q place long at (one_more last.place last.more place next_place);
    }

pub one_piece : (pieces : List Piece) (place slot : ℕ) → AddsSlot place slot pieces (pieces ++ (record { place = place; first = slot; more = 0 }) ∷ [])
one_piece pieces place slot =
    let q : Piece = record { place = place; first = slot; more = 0 } in
    record { slots = flat_map-append piece_slots pieces (q ∷ []); places = flat_map-append piece_places pieces (q ∷ []) }

-- what a rule tells of pieces, one after another
piece_has : (rule : Piece → List ℕ) (pieces : List Piece) (i : ℕ) (q : Piece) (x : ℕ) → slice_get pieces i ≡ Some q → Contains (rule q) x → Contains (flat_map rule pieces) x
piece_has rule [] i q x at has = absurd (none-some _ at)
piece_has rule (p ∷ pieces) zero q x at has = Contains-append_left (rule p) (flat_map rule pieces) x (subst (λ (j : Piece). Contains (rule j) x) (sym (same_Some p q at)) has)
piece_has rule (p ∷ pieces) (suc i) q x at has = Contains-append_right (rule p) (flat_map rule pieces) x (piece_has rule pieces i q x at has)

has_piece : (rule : Piece → List ℕ) (pieces : List Piece) (x : ℕ) → Contains (flat_map rule pieces) x → (i : ℕ) × (q : Piece) × (slice_get pieces i ≡ Some q) × Contains (rule q) x
has_piece rule [] x (i, within, e) = absurd (omega (arith, within))
has_piece rule (p ∷ pieces) x has = elim (Contains-append_cases (rule p) (flat_map rule pieces) x has) [
  | inl here ↦ (0, p, refl, here)
  | inr later ↦ let t = has_piece rule pieces x later in (suc t.0, t.1, t.2, t.3)
]

-- pieces have each slot of theirs, and each place
pub slot_in : (pieces : List Piece) (i k : ℕ) (q : Piece) → slice_get pieces i ≡ Some q → k < q.more + 1 → Contains (slots_in pieces) (q.first + k)
slot_in pieces i k q at lt = piece_has piece_slots pieces i q (q.first + k) at (range_has q.first (q.more + 1) k lt)

pub place_in : (pieces : List Piece) (i k : ℕ) (q : Piece) → slice_get pieces i ≡ Some q → k < q.more + 1 → Contains (places_in pieces) (q.place + k)
place_in pieces i k q at lt = piece_has piece_places pieces i q (q.place + k) at (range_has q.place (q.more + 1) k lt)

pub in_place : (pieces : List Piece) (p : ℕ) → Contains (places_in pieces) p → (i : ℕ) × (k : ℕ) × (q : Piece) × (slice_get pieces i ≡ Some q) × (k < q.more + 1) × (p ≡ q.place + k)
in_place pieces p has =
    let t = has_piece piece_places pieces p has in
    let q : Piece = t.1 in
    let r = range_of q.place (q.more + 1) p t.3 in
    (t.0, p - q.place, q, t.2, omega (arith, r.0, r.1), omega (arith, r.0))

behind : {A : Type 0} (xs ys : List A) (n : ℕ) → length xs ≡ n → drop n (xs ++ ys) ≡ ys
behind [] ys zero e = refl
behind [] ys (suc n) e = absurd (omega (arith, e))
behind (x ∷ xs) ys zero e = absurd (omega (arith, e))
behind (x ∷ xs) ys (suc n) e = behind xs ys n (omega (arith, e))

-- where the slots of pieces are told by their places, so is each
pub told : (f : ℕ → ℕ) (pieces : List Piece) → slots_in pieces ≡ map f (places_in pieces) → (i k : ℕ) (q : Piece) → slice_get pieces i ≡ Some q → k < q.more + 1 → q.first + k ≡ f (q.place + k)
told f [] h i k q at lt = absurd (none-some _ at)
told f (p ∷ pieces) h zero k q at lt =
    let same : p ≡ q = same_Some p q at in
    let n : ℕ = p.more + 1 in
    let low : k < n = omega (arith, lt, ap (λ (j : Piece). j.more) same) in
    let xs = range_with_len p.place n in let ys = range_with_len p.first n in
    let long = length-range_with_len p.place n in let wide = length-range_with_len p.first n in
    let whole = places_in pieces in
    let both : get_or (ys ++ slots_in pieces) k 0 ≡ get_or (map f xs ++ map f whole) k 0 = ap (λ (l : List ℕ). get_or l k 0) (h ∙ map-append f xs whole) in
    let one : get_or (ys ++ slots_in pieces) k 0 ≡ p.first + k = get_or_append_left ys (slots_in pieces) 0 k (omega (arith, low, wide)) ∙ get_or-range_with_len p.first n k 0 low in
    let other : get_or (map f xs ++ map f whole) k 0 ≡ f (p.place + k)
    = get_or_append_left (map f xs) (map f whole) 0 k (omega (arith, low, long, length-map xs f)) ∙ get_or-map f xs k 0 0 (omega (arith, low, long)) ∙ ap f (get_or-range_with_len p.place n k 0 low) in
    subst (λ (j : Piece). j.first + k ≡ f (j.place + k)) same (sym one ∙ both ∙ other)
told f (p ∷ pieces) h (suc i) k q at lt =
    let n : ℕ = p.more + 1 in
    let xs = range_with_len p.place n in let ys = range_with_len p.first n in
    let rest : slots_in pieces ≡ map f (places_in pieces)
    = sym (behind ys (slots_in pieces) n (length-range_with_len p.first n)) ∙ ap (drop n) (h ∙ map-append f xs (places_in pieces)) ∙ behind (map f xs) (map f (places_in pieces)) n (length-map xs f ∙ length-range_with_len p.place n) in
    told f pieces rest i k q at lt

-- each slot of pieces stands at its place
pub at_place : (places slots : List ℕ) (pieces : List Piece) → ArePiecesAt places slots pieces → ((i p : ℕ) → slice_get places i ≡ Some p → p < length slots)
    → (i k : ℕ) (q : Piece) → slice_get pieces i ≡ Some q → k < q.more + 1 → slice_get slots (q.place + k) ≡ Some (q.first + k)
at_place places slots pieces are inside i k q at lt =
    let has : Contains places (q.place + k) = subst (λ (l : List ℕ). Contains l (q.place + k)) are.places_are (place_in pieces i k q at lt) in
    let within = inside has.0 (q.place + k) (slice_get-get_or places has.0 (q.place + k) has.1 ∙ ap Some has.2) in
    let by : slots_in pieces ≡ map (λ p. get_or slots p 0) (places_in pieces) = are.slots_are ∙ ap (map (λ p. get_or slots p 0)) (sym are.places_are) in
    slice_get-get_or slots (q.place + k) 0 within ∙ ap Some (sym (told (λ p. get_or slots p 0) pieces by i k q at lt))

-- one more of some places is told
pub more_at : (places slots : List ℕ) (old new : List Piece) (i place slot : ℕ) → ArePiecesAt (take i places) slots old → AddsSlot place slot old new → i < length places → place ≡ get_or places i 0 → slot ≡ get_or slots place 0
    → ArePiecesAt (take (i + 1) places) slots new
more_at places slots old new i place slot are adds lt is stands =
    let f : ℕ → ℕ = λ p. get_or slots p 0 in
    record {
      places_are = adds.places ∙ ap (λ (l : List ℕ). l ++ place ∷ []) are.places_are ∙ ap (λ (p : ℕ). take i places ++ p ∷ []) is ∙ sym (take_more places i 0 lt);
      slots_are = adds.slots ∙ ap (λ (l : List ℕ). l ++ slot ∷ []) are.slots_are ∙ ap (λ (s : ℕ). map f (take i places) ++ s ∷ []) (stands ∙ ap f is) ∙ sym (map_more f places i 0 lt);
    }
