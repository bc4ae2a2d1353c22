-- Items that are put into a row, one after another, and piece by piece.
use Rattle.std.proofs.Common.{◌≡◌, ◌<◌, ◌+◌, ◌-◌, ℕ, List, length, set, Some, ap, sym, ◌∙◌, subst, arith, refl, inl, inr, ◌⊎◌, Contains}
use Rattle.std.specs.Prelude.{slice_get}
use Rattle.std.proofs.lemmas.Bool.{cases_lt}
use Rattle.std.proofs.lemmas.List.{length-set, get_or-set_same}
use Rattle.std.proofs.lemmas.Option.{slice_get-get_or, same_Some, slice_get_within}
use Rattle.vm_slices.specs.declared.pieces.Piece.{Piece}
use Rattle.vm_slices.specs.Puts.{AreApartIn, Puts, PutsAt}
use Rattle.vm_slices.specs.Pieces.{ArePiecesAt, PutsPiece, HaveOnePlace, PutsPieces}
use Rattle.vm_slices.proofs.Items.{get_other}
use Rattle.vm_slices.proofs.Spelled.{in_place, place_in, at_place}

-- the first n items stand under their numbers, and all others of the row are as they were
pub record PutUpTo {A : Type 0} (numbers : List ℕ) (items old : List A) (n : ℕ) (new : List A) : Type 0 where
  pub size : length new ≡ length old
  pub put : (i s : ℕ) → i < n → slice_get numbers i ≡ Some s → slice_get new s ≡ slice_get items i
  pub kept : (s : ℕ) → ((i : ℕ) → i < n → slice_get numbers i ≡ Some s → ⊥) → slice_get new s ≡ slice_get old s

-- the item that was written
here : {A : Type 0} (xs : List A) (s : ℕ) (x : A) → s < length xs → slice_get (set xs s x) s ≡ Some x
here xs s x within = let l = length-set xs s x in slice_get-get_or (set xs s x) s x (omega arith) ∙ ap Some (get_or-set_same xs s x x within)

module _ {A : Type 0} (numbers : List ℕ) (items old : List A) where
  pub none_put : PutUpTo numbers items old 0 old
  none_put = record { size = refl; put = λ i s lt. absurd (omega arith); kept = λ s h. refl }

  pub more_put : (n s : ℕ) (mid : List A) (x : A) → PutUpTo numbers items old n mid → AreApartIn (length old) numbers → slice_get numbers n ≡ Some s → slice_get items n ≡ Some x
      → PutUpTo numbers items old (n + 1) (set mid s x)
  more_put n s mid x h apart at item =
      let within : s < length old = apart.inside n s at in let long = h.size in
      record {
        size = length-set mid s x ∙ h.size;
        put = λ i r lt there. elim (cases_lt i n) [
          | inl low ↦
              let ne : (r ≡ s → ⊥) = (λ e. let same : i ≡ n = apart.apart i n s (there ∙ ap Some e) at in omega arith) in
              get_other mid s r x ne ∙ h.put i r low there
          | inr high ↦
              let same : i ≡ n = omega arith in
              let e : r ≡ s = same_Some r s (sym there ∙ ap (slice_get numbers) same ∙ at) in
              ap (slice_get (set mid s x)) e ∙ here mid s x (omega arith) ∙ sym item ∙ ap (slice_get items) (sym same)
        ];
        kept = λ r none. get_other mid s r x (λ e. none n (omega arith) (at ∙ ap Some (sym e))) ∙ h.kept r (λ i lt. none i (omega arith));
      }

  pub all_put : (new : List A) → PutUpTo numbers items old (length numbers) new → Puts numbers items old new
  all_put new h = record {
    size = h.size;
    put = λ i s at. h.put i s (slice_get_within numbers i s at) at;
    kept = λ s none. h.kept s (λ i lt at. none i at);
  }

-- the items of the first n pieces stand at their slots, and all others of the row are as they were
pub record PutPieces {A : Type 0} (pieces : List Piece) (items old : List A) (n : ℕ) (new : List A) : Type 0 where
  pub size : length new ≡ length old
  pub put : (i k : ℕ) (q : Piece) → i < n → slice_get pieces i ≡ Some q → k < q.more + 1 → slice_get new (q.first + k) ≡ slice_get items (q.place + k)
  pub kept : (s : ℕ) → ((i k : ℕ) (q : Piece) → i < n → slice_get pieces i ≡ Some q → k < q.more + 1 → s ≡ q.first + k → ⊥) → slice_get new s ≡ slice_get old s

-- a slot is one of some that stand one after another, or none of them
in_row : (first count s : ℕ) → ((k : ℕ) × (k < count) × (s ≡ first + k)) ⊎ ((k : ℕ) → k < count → s ≡ first + k → ⊥)
in_row first count s = elim (cases_lt s first) [
  | inl low ↦ inr (λ k lt e. omega (arith, low, e))
  | inr high ↦ elim (cases_lt s (first + count)) [
    | inl within ↦ inl (s - first, omega (arith, high, within), omega (arith, high))
    | inr past ↦ inr (λ k lt e. omega (arith, past, lt, e))
  ]
]

module _ {A : Type 0} (pieces : List Piece) (items old : List A) where
  pub no_pieces_put : PutPieces pieces items old 0 old
  no_pieces_put = record { size = refl; put = λ i k q lt. absurd (omega arith); kept = λ s h. refl }

  pub more_pieces_put : (n : ℕ) (q : Piece) (mid new : List A) → HaveOnePlace pieces → PutPieces pieces items old n mid → slice_get pieces n ≡ Some q → PutsPiece q items mid new
      → PutPieces pieces items old (n + 1) new
  more_pieces_put n q mid new apart h at_n now = record {
    size = now.size ∙ h.size;
    put = λ i k r lt at within. elim (in_row q.first (q.more + 1) (r.first + k)) [
      | inl (m, low, e) ↦
          let same : r.place + k ≡ q.place + m = apart.one i n k m r q at at_n within low e in
          ap (slice_get new) e ∙ now.put m low ∙ ap (slice_get items) (sym same)
      | inr out ↦ elim (cases_lt i n) [
        | inl low ↦ now.kept (r.first + k) out ∙ h.put i k r low at within
        | inr high ↦
            let here : i ≡ n = omega (arith, high, lt) in
            let is : r ≡ q = same_Some r q (sym at ∙ ap (slice_get pieces) here ∙ at_n) in
            absurd (out k (omega (arith, within, ap (λ (x : Piece). x.more) is)) (ap (λ (x : Piece). x.first + k) is))
      ]
    ];
    kept = λ s none. now.kept s (λ k low e. none n k q (omega arith) at_n low e) ∙ h.kept s (λ i k r lt. none i k r (omega (arith, lt)));
  }

  pub all_pieces_put : (new : List A) → PutPieces pieces items old (length pieces) new → PutsPieces pieces items old new
  all_pieces_put new h = record {
    size = h.size;
    put = λ i k q at. h.put i k q (slice_get_within pieces i q at) at;
    kept = λ s none. h.kept s (λ i k q lt at. none i k q at);
  }

  -- the values of a part's pieces are put where its slots are
  pub puts_at : (slots written : List ℕ) (new : List A) → ArePiecesAt written slots pieces → ((i p : ℕ) → slice_get written i ≡ Some p → p < length slots)
      → PutsPieces pieces items old new → PutsAt written slots items old new
  puts_at slots written new are inside h = record {
    size = h.size;
    put = λ p s has at.
        let t = in_place pieces p (subst (λ (l : List ℕ). Contains l p) (sym are.places_are) has) in
        let i : ℕ = t.0 in let k : ℕ = t.1 in let q : Piece = t.2 in
        let there = t.3 in let low = t.4 in let is : p ≡ q.place + k = t.5 in
        let e : s ≡ q.first + k = same_Some s (q.first + k) (sym at ∙ ap (slice_get slots) is ∙ at_place written slots pieces are inside i k q there low) in
        ap (slice_get new) e ∙ h.put i k q there low ∙ ap (slice_get items) (sym is);
    kept = λ s none. h.kept s (λ i k q at low e.
        none (q.place + k) (subst (λ (l : List ℕ). Contains l (q.place + k)) are.places_are (place_in pieces i k q at low))
        (at_place written slots pieces are inside i k q at low ∙ ap Some (sym e)));
  }

-- pieces of slots that are different have one place for each
pub one_place : (slots written : List ℕ) (pieces : List Piece) → ArePiecesAt written slots pieces → ((i p : ℕ) → slice_get written i ≡ Some p → p < length slots)
    → ((i j s : ℕ) → slice_get slots i ≡ Some s → slice_get slots j ≡ Some s → i ≡ j) → HaveOnePlace pieces
one_place slots written pieces are inside apart = record {
  one = λ i j k m q r at there low less e.
      apart (q.place + k) (r.place + m) (r.first + m) (at_place written slots pieces are inside i k q at low ∙ ap Some e) (at_place written slots pieces are inside j m r there less);
}
