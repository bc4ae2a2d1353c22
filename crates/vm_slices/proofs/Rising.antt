-- Numbers that rise.
use Rattle.std.proofs.Common.{◌≡◌, ◌<◌, ◌≤◌, ◌+◌, ◌-◌, ℕ, zero, suc, List, [], ◌∷◌, length, get_or, Some, ap, sym, ◌∙◌, arith, inl, inr, Contains}
use Rattle.std.specs.Prelude.{slice_get, IsPermutation, IsSorted}
use Rattle.std.specs.Ordering.{nat_cmp}
use Rattle.std.specs.List.{IsDistinct}
use Rattle.std.proofs.Math.Dec.{eqb}
use Rattle.std.proofs.lemmas.Bool.{cases_lt, eqb-false}
use Rattle.std.proofs.lemmas.Bool.Decides.{nat_tests}
use Rattle.std.proofs.lemmas.Map.Keys.{IsDistinct-IsPermutation, apart_from_distinct, ge_from_not_lt}
use Rattle.std.proofs.lemmas.Option.{same_Some, slice_get_within, slice_get-get_or, get_or_from_slice_get}
use Rattle.vm_slices.specs.Ascending.{Rises}
use Rattle.vm_slices.specs.Renaming.{KeepsRow}

-- a number that a list has stands at a place of it
pub stands_at : {A : Type 0} (xs : List A) (s : A) → Contains xs s → (i : ℕ) × (slice_get xs i ≡ Some s)
stands_at xs s h = (h.0, slice_get-get_or xs h.0 s h.1 ∙ ap Some h.2)

pub has_at : {A : Type 0} (xs : List A) (i : ℕ) (s : A) → slice_get xs i ≡ Some s → Contains xs s
has_at xs i s at = (i, slice_get_within xs i s at, get_or_from_slice_get xs i s s at)

-- numbers that rise are different
pub apart_where_rising : (xs : List ℕ) → Rises xs → (i j s : ℕ) → slice_get xs i ≡ Some s → slice_get xs j ≡ Some s → i ≡ j
apart_where_rising xs rise i j s here there = elim (cases_lt i j) [
  | inl low ↦ let no = rise i j s s low here there in absurd (omega arith)
  | inr high ↦ elim (cases_lt j i) [
    | inl low ↦ let no = rise j i s s low there here in absurd (omega arith)
    | inr more ↦ omega arith
  ]
]

-- a number further on in a sorted list is no less
no_less : (xs : List ℕ) → IsSorted nat_cmp xs → (i n : ℕ) → i + n < length xs → get_or xs i 0 ≤ get_or xs (i + n) 0
no_less xs order i zero within = let e : i ≡ i + 0 = omega arith in omega (arith, ap (λ k. get_or xs k 0) e)
no_less xs order i (suc n) within =
    let before = no_less xs order i n (omega arith) in
    let next : get_or xs (i + n) 0 ≤ get_or xs (i + n + 1) 0 = ge_from_not_lt _ _ (order (i + n) 0 (omega arith) (omega arith)) in
    let e : i + n + 1 ≡ i + suc n = omega arith in
    omega (arith, before, next, ap (λ k. get_or xs k 0) e)

-- different numbers rise once they are sorted
pub sorted_rise : (all sorted : List ℕ) → IsDistinct eqb all → IsPermutation all sorted → IsSorted nat_cmp sorted → Rises sorted
sorted_rise all sorted once moved order i j a b lt one other =
    let within = slice_get_within sorted j b other in
    let low = get_or_from_slice_get sorted i a 0 one in
    let high = get_or_from_slice_get sorted j b 0 other in
    let some : i + (j - i) ≡ j = omega arith in
    let le = no_less sorted order i (j - i) (omega arith) in
    let still = IsDistinct-IsPermutation eqb (λ x y. grind (arith, nat_tests)) all sorted moved once in
    let differ = eqb-false _ _ (apart_from_distinct eqb sorted i j 0 still lt within) in
    omega (arith, low, high, le, ap (λ k. get_or sorted k 0) some, differ)

-- a number that rises from place to place is at least its place
at_least : (xs : List ℕ) → Rises xs → (i s : ℕ) → slice_get xs i ≡ Some s → i ≤ s
at_least xs rise zero s at = omega arith
at_least xs rise (suc i) s at =
    let within = slice_get_within xs (suc i) s at in
    let before : slice_get xs i ≡ Some (get_or xs i 0) = slice_get-get_or xs i 0 (omega arith) in
    let low = at_least xs rise i (get_or xs i 0) before in
    let less = rise i (suc i) (get_or xs i 0) s (omega arith) before at in
    omega arith

-- numbers that rise and are below a number are no more than it
pub no_more : (xs : List ℕ) (n : ℕ) → Rises xs → ((i s : ℕ) → slice_get xs i ≡ Some s → s < n) → length xs ≤ n
no_more [] n rise few = omega arith
no_more (x ∷ xs) n rise few =
    let k = length xs in
    let last : slice_get (x ∷ xs) k ≡ Some (get_or (x ∷ xs) k 0) = slice_get-get_or (x ∷ xs) k 0 (omega arith) in
    let low = at_least (x ∷ xs) rise k (get_or (x ∷ xs) k 0) last in
    let high = few k (get_or (x ∷ xs) k 0) last in
    omega arith

module _ (slots : List ℕ) (rise : Rises slots) (f : ℕ → ℕ) (first count : ℕ) (at : (k : ℕ) → k < count → slice_get slots (f (first + k)) ≡ Some (first + k)) where
  -- the next number stands at the next place
  next_place : (k : ℕ) → suc k < count → f (first + suc k) ≡ suc (f (first + k))
  next_place k lt =
      let here = at k (omega arith) in
      let there = at (suc k) lt in
      elim (cases_lt (f (first + k)) (f (first + suc k))) [
        | inr back ↦ elim (cases_lt (f (first + suc k)) (f (first + k))) [
          | inl below ↦ let wrong = rise (f (first + suc k)) (f (first + k)) (first + suc k) (first + k) below there here in absurd (omega arith)
          | inr above ↦
              let e : f (first + suc k) ≡ f (first + k) = omega arith in
              let same = same_Some (first + suc k) (first + k) (sym there ∙ ap (slice_get slots) e ∙ here) in
              absurd (omega arith)
        ]
        | inl ahead ↦ elim (cases_lt (suc (f (first + k))) (f (first + suc k))) [
          | inr close ↦ omega arith
          | inl gap ↦
              let inside = slice_get_within slots (f (first + suc k)) (first + suc k) there in
              let y = get_or slots (suc (f (first + k))) 0 in
              let mid : slice_get slots (suc (f (first + k))) ≡ Some y = slice_get-get_or slots (suc (f (first + k))) 0 (omega arith) in
              let low = rise (f (first + k)) (suc (f (first + k))) (first + k) y (omega arith) here mid in
              let high = rise (suc (f (first + k))) (f (first + suc k)) y (first + suc k) gap mid there in
              absurd (omega arith)
        ]
      ]

  -- numbers one after another that all stand in a list which rises stand there one after another
  pub in_one_piece : KeepsRow f first count
  in_one_piece zero lt = let e : first + 0 ≡ first = omega arith in ap f e ∙ (let e : f first ≡ f first + 0 = omega arith in e)
  in_one_piece (suc k) lt =
      let rest = in_one_piece k (omega arith) in
      let step = next_place k lt in
      omega (arith, rest, step)
