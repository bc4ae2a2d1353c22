-- Places in a list, one after another.
use Rattle.std.proofs.Common.{◌≡◌, ◌∙◌, ap, sym, subst, refl, arith, ℕ, zero, suc, ◌+◌, ◌<◌, ◌≤◌, List, [], ◌∷◌, length, map, replicate, slice_set, slice_get, get_or, Option, Some, None, inl, inr, true, false, Bool, ◌⊎◌}
use Rattle.std.specs.Prelude.{if◌then◌else◌, option_and_then}
use Rattle.std.proofs.lemmas.Option.{slice_get-get_or}
use Rattle.std.proofs.lemmas.Bool.{cases_Bool}
use Rattle.logic_carry.specs.declared.lists.ValueAt.{ValueAt}
use Rattle.logic_carry.specs.declared.lists.StandardAt.{StandardAt}
use Rattle.logic_source.specs.Carried.{same_standard}
use Rattle.logic_carry.specs.Keeping.{KeepsValue, KeepsCalls, same_listed, judged_value, judged_call, kept_value, kept_call, ArePlaces, AreOnce, value_path, standard_path}

pub same_or_not : (a b : ℕ) → (a ≡ b) ⊎ (a ≡ b → ⊥)
same_or_not zero zero = inl refl
same_or_not zero (suc b) = inr (λ e. omega (arith, e))
same_or_not (suc a) zero = inr (λ e. omega (arith, e))
same_or_not (suc a) (suc b) = elim (same_or_not a b) [ inl same ↦ inl (ap suc same) | inr other ↦ inr (λ e. other (omega (arith, e))) ]

set_here : {A : Type 0} (xs : List A) (i : ℕ) (v : A) → i < length xs → slice_get (slice_set xs i v) i ≡ Some v
set_here [] i v h = absurd (omega (arith, h))
set_here (x ∷ xs) zero v h = refl
set_here (x ∷ xs) (suc i) v h = set_here xs i v (omega (arith, h))

set_other : {A : Type 0} (xs : List A) (i j : ℕ) (v : A) → (i ≡ j → ⊥) → slice_get (slice_set xs i v) j ≡ slice_get xs j
set_other [] i j v other = refl
set_other (x ∷ xs) zero zero v other = absurd (other refl)
set_other (x ∷ xs) zero (suc j) v other = refl
set_other (x ∷ xs) (suc i) zero v other = refl
set_other (x ∷ xs) (suc i) (suc j) v other = set_other xs i j v (λ e. other (ap suc e))

set_long : {A : Type 0} (xs : List A) (i : ℕ) (v : A) → length (slice_set xs i v) ≡ length xs
set_long [] i v = refl
set_long (x ∷ xs) zero v = refl
set_long (x ∷ xs) (suc i) v = ap suc (set_long xs i v)

none_there : (n k : ℕ) (x : Option ℕ) → slice_get (replicate n None) k ≡ Some x → x ≡ None
none_there zero k x at = absurd (cc)
none_there (suc n) zero x at = cc
none_there (suc n) (suc k) x at = none_there n k x at

pub replicate_long : {A : Type 0} (n : ℕ) (x : A) → length (replicate n x) ≡ n
replicate_long zero x = refl
replicate_long (suc n) x = ap suc (replicate_long n x)

pub places_none : (paths : List ℕ) (n : ℕ) → ArePlaces paths 0 (replicate n None)
places_none paths n = record {
  stands = λ path k at. (let none : Some k ≡ None = none_there n path (Some k) at in absurd (cc));
  told = λ k path less at small. absurd (omega (arith, less));
}

module _ (paths : List ℕ) (n path : ℕ) (places : List (Option ℕ)) (here : slice_get paths n ≡ Some path) (are : ArePlaces paths n places) where
  -- the next path is put in its place
  module _ (small : path < length places) where
    stands_now : (q k : ℕ) → slice_get (slice_set places path (Some n)) q ≡ Some (Some k) → slice_get paths k ≡ Some q
    stands_now q k at = elim (same_or_not path q) [
      | inl same ↦
          let now : Some (Some n) ≡ Some (Some k) = sym (set_here places path (Some n) small) ∙ ap (slice_get (slice_set places path (Some n))) same ∙ at in
          let one : n ≡ k = cc in
          ap (slice_get paths) (sym one) ∙ here ∙ ap Some same
      | inr other ↦ are.stands q k (sym (set_other places path q (Some n) other) ∙ at)
    ]

    told_now : (k q : ℕ) → k < suc n → slice_get paths k ≡ Some q → q < length (slice_set places path (Some n)) → (j : ℕ) × (slice_get (slice_set places path (Some n)) q ≡ Some (Some j))
    told_now k q less at short = elim (same_or_not path q) [
      | inl same ↦ (n, subst (λ (x : ℕ). slice_get (slice_set places path (Some n)) x ≡ Some (Some n)) same (set_here places path (Some n) small))
      | inr other ↦ elim (same_or_not k n) [
        | inl last ↦ (let both : Some path ≡ Some q = sym here ∙ ap (slice_get paths) (sym last) ∙ at in absurd (other cc))
        | inr before ↦
            let long = set_long places path (Some n) in
            let was = are.told k q (omega (arith, less, before)) at (omega (arith, short, long)) in
            (was.0, set_other places path q (Some n) other ∙ was.1)
      ]
    ]

    pub placed : ArePlaces paths (n + 1) (slice_set places path (Some n))
    placed = record { stands = stands_now; told = λ k q less at short. told_now k q (omega (arith, less)) at short }

  -- a path past all places is passed over
  pub passed : length places ≤ path → ArePlaces paths (n + 1) places
  passed past = record {
    stands = are.stands;
    told = λ k q less at short. elim (same_or_not k n) [
      | inl last ↦ (let both : Some path ≡ Some q = sym here ∙ ap (slice_get paths) (sym last) ∙ at in let same : path ≡ q = cc in absurd (omega (arith, past, short, same)))
      | inr before ↦ are.told k q (omega (arith, less, before)) at short
    ];
  }

set_past_end : {A : Type 0} (xs : List A) (i : ℕ) (v : A) → length xs ≤ i → slice_set xs i v ≡ xs
set_past_end [] i v past = refl
set_past_end (x ∷ xs) zero v past = absurd (omega (arith, past))
set_past_end (x ∷ xs) (suc i) v past = ap (λ ys. x ∷ ys) (set_past_end xs i v (omega (arith, past)))

pub placed_long : (places : List (Option ℕ)) (path n : ℕ) → length (slice_set places path (Some n)) ≡ length places
placed_long places path n = set_long places path (Some n)

less_or_past : (a b : ℕ) → (a < b) ⊎ (b ≤ a)
less_or_past zero zero = inr (omega arith)
less_or_past zero (suc b) = inl (omega arith)
less_or_past (suc a) zero = inr (omega arith)
less_or_past (suc a) (suc b) = elim (less_or_past a b) [ inl less ↦ inl (omega (arith, less)) | inr past ↦ inr (omega (arith, past)) ]

-- the next path is put in its place, if it has one
pub placed_or_passed : (paths : List ℕ) (n path : ℕ) (places : List (Option ℕ)) → slice_get paths n ≡ Some path → ArePlaces paths n places → ArePlaces paths (n + 1) (slice_set places path (Some n))
placed_or_passed paths n path places here are = elim (less_or_past path (length places)) [
  | inl small ↦ placed paths n path places here are small
  | inr past ↦ subst (λ (xs : List (Option ℕ)). ArePlaces paths (n + 1) xs) (sym (set_past_end places path (Some n) past)) (passed paths n path places here are past)
]

pub mapped_at : {A B : Type 0} (f : A → B) (xs : List A) (k : ℕ) (x : A) → slice_get xs k ≡ Some x → slice_get (map f xs) k ≡ Some (f x)
mapped_at f [] k x at = absurd (cc)
mapped_at f (y ∷ ys) zero x at = let same : y ≡ x = cc in ap (λ z. Some (f z)) same
mapped_at f (y ∷ ys) (suc k) x at = mapped_at f ys k x at

pub at_mapped : {A B : Type 0} (f : A → B) (xs : List A) (k : ℕ) (y : B) → slice_get (map f xs) k ≡ Some y → (x : A) × (slice_get xs k ≡ Some x) × (f x ≡ y)
at_mapped f [] k y at = absurd (cc)
at_mapped f (x ∷ xs) zero y at = (x, refl, cc)
at_mapped f (x ∷ xs) (suc k) y at = at_mapped f xs k y at

within : {A : Type 0} (xs : List A) (k : ℕ) (x : A) → slice_get xs k ≡ Some x → k < length xs
within [] k x at = absurd (cc)
within (y ∷ ys) zero x at = omega arith
within (y ∷ ys) (suc k) x at = let less = within ys k x at in omega (arith, less)

-- ---- what is told of a path

module _ {A : Type 0} (f : A → ℕ) (old : List A) (places : List (Option ℕ)) (are : ArePlaces (map f old) (length old) places) (once : AreOnce (map f old)) (path : ℕ) where
  -- the number that is told is that of the only one at the path
  pub only : (n k : ℕ) (o : A) → slice_get places path ≡ Some (Some n) → slice_get old k ≡ Some o → f o ≡ path → k ≡ n
  only n k o told at is = once k n path (mapped_at f old k o at ∙ ap Some is) (are.stands path n told)

  -- and where none is told none is at the path
  pub none : (k : ℕ) (o : A) → slice_get places path ≡ Some None → path < length places → slice_get old k ≡ Some o → f o ≡ path → ⊥
  none k o told small at is =
      let was = are.told k path (within old k o at) (mapped_at f old k o at ∙ ap Some is) small in
      let both : Some (Some was.0) ≡ Some None = sym was.1 ∙ told in
      absurd (cc)

  pub there : (n : ℕ) → slice_get places path ≡ Some (Some n) → (o : A) × (slice_get old n ≡ Some o) × (f o ≡ path)
  there n told = at_mapped f old n path (are.stands path n told)

-- ---- what is kept

pub keeps_this : (old : List ValueAt) (v o : ValueAt) (k : ℕ) → slice_get old k ≡ Some o → o.path ≡ v.path → same_listed o v ≡ true → KeepsValue old v (Some k)
keeps_this old v o k at path same = (o, at, path, same)

pub keeps_not : (old : List ValueAt) (places : List (Option ℕ)) (v o : ValueAt) (n : ℕ) → ArePlaces (map value_path old) (length old) places → AreOnce (map value_path old) → slice_get places v.path ≡ Some (Some n) → slice_get old n ≡ Some o → same_listed o v ≡ false → KeepsValue old v None
keeps_not old places v o n are once told at other = λ k x at' path.
    let same : k ≡ n = only value_path old places are once v.path n k x told at' path in
    let both : Some x ≡ Some o = sym at' ∙ ap (slice_get old) same ∙ at in
    let one : x ≡ o = cc in
    ap (λ y. same_listed y v) one ∙ other

pub keeps_none_there : (old : List ValueAt) (places : List (Option ℕ)) (v : ValueAt) → ArePlaces (map value_path old) (length old) places → AreOnce (map value_path old) → slice_get places v.path ≡ Some None → v.path < length places → KeepsValue old v None
keeps_none_there old places v are once told small = λ k x at path. absurd (none value_path old places are once v.path k x told small at path)

pub calls_not : (old : List StandardAt) (places : List (Option ℕ)) (s o : StandardAt) (n : ℕ) → ArePlaces (map standard_path old) (length old) places → AreOnce (map standard_path old) → slice_get places s.path ≡ Some (Some n) → slice_get old n ≡ Some o → same_standard o.of s.of ≡ false → KeepsCalls old s None
calls_not old places s o n are once told at other = λ k x at' path.
    let same : k ≡ n = only standard_path old places are once s.path n k x told at' path in
    let both : Some x ≡ Some o = sym at' ∙ ap (slice_get old) same ∙ at in
    let one : x ≡ o = cc in
    ap (λ (y : StandardAt). same_standard y.of s.of) one ∙ other

pub calls_none_there : (old : List StandardAt) (places : List (Option ℕ)) (s : StandardAt) → ArePlaces (map standard_path old) (length old) places → AreOnce (map standard_path old) → slice_get places s.path ≡ Some None → s.path < length places → KeepsCalls old s None
calls_none_there old places s are once told small = λ k x at path. absurd (none standard_path old places are once s.path k x told small at path)

-- what is kept of a value by the places of the old ones
module _ (old : List ValueAt) (places : List (Option ℕ)) (v : ValueAt) (are : ArePlaces (map value_path old) (length old) places) (once : AreOnce (map value_path old)) where
  judged : (n : ℕ) → slice_get places v.path ≡ Some (Some n) → (o : ValueAt) → slice_get old n ≡ Some o → o.path ≡ v.path → KeepsValue old v (judged_value v n (Some o))
  judged n told o at path = elim (cases_Bool (same_listed o v)) [
    | inl yes' ↦ subst (λ (x : Option ℕ). KeepsValue old v x) (ap (λ (b : Bool). if b then Some n else None) (sym yes')) (keeps_this old v o n at path yes')
    | inr no' ↦ subst (λ (x : Option ℕ). KeepsValue old v x) (ap (λ (b : Bool). if b then Some n else None) (sym no')) (keeps_not old places v o n are once told at no')
  ]

  by_place : (o : Option ℕ) → slice_get places v.path ≡ Some o → v.path < length places → KeepsValue old v (option_and_then (λ n. judged_value v n (slice_get old n)) o)
  by_place None told small = keeps_none_there old places v are once told small
  by_place (Some n) told small =
      let it = there value_path old places are once v.path n told in
      subst (λ (x : Option ValueAt). KeepsValue old v (judged_value v n x)) (sym it.1) (judged n told it.0 it.1 it.2)

  pub value_kept : v.path < length places → KeepsValue old v (kept_value old places v)
  value_kept small = by_place (get_or places v.path None) (slice_get-get_or places v.path None small) small

-- and of a standard block
module _ (old : List StandardAt) (places : List (Option ℕ)) (s : StandardAt) (are : ArePlaces (map standard_path old) (length old) places) (once : AreOnce (map standard_path old)) where
  call_judged : (n : ℕ) → slice_get places s.path ≡ Some (Some n) → (o : StandardAt) → slice_get old n ≡ Some o → o.path ≡ s.path → KeepsCalls old s (judged_call s n (Some o))
  call_judged n told o at path = elim (cases_Bool (same_standard o.of s.of)) [
    | inl yes' ↦ subst (λ (x : Option ℕ). KeepsCalls old s x) (ap (λ (b : Bool). if b then Some n else None) (sym yes')) (o, at, path, yes')
    | inr no' ↦ subst (λ (x : Option ℕ). KeepsCalls old s x) (ap (λ (b : Bool). if b then Some n else None) (sym no')) (calls_not old places s o n are once told at no')
  ]

  call_by_place : (o : Option ℕ) → slice_get places s.path ≡ Some o → s.path < length places → KeepsCalls old s (option_and_then (λ n. judged_call s n (slice_get old n)) o)
  call_by_place None told small = calls_none_there old places s are once told small
  call_by_place (Some n) told small =
      let it = there standard_path old places are once s.path n told in
      subst (λ (x : Option StandardAt). KeepsCalls old s (judged_call s n x)) (sym it.1) (call_judged n told it.0 it.1 it.2)

  pub call_kept : s.path < length places → KeepsCalls old s (kept_call old places s)
  call_kept small = call_by_place (get_or places s.path None) (slice_get-get_or places s.path None small) small
