-- Elements of lists, by cases on the list.
use Rattle.std.proofs.Common.{◌≡◌, ◌∙◌, ap, sym, refl, ℕ, zero, suc, ◌+◌, ◌<◌, ◌≤◌, Bool, true, false, List, [], ◌∷◌, ◌++◌, length, get_or, set, Some, slice_get, inl, inr, arith, replicate}
use Rattle.std.specs.Prelude.{◌⊎◌}
use Rattle.std.specs.List.{All, list_any}
use Rattle.std.proofs.lemmas.Bool.{or_cases, or_left, or_right, or_parts}
use Rattle.std.proofs.lemmas.List.Elements.{All-head, All-tail}
use Rattle.st_blocks.specs.Chains.{Among}

pub among_left : {V : Type 0} (xs ys : List V) (v : V) → Among xs v → Among (xs ++ ys) v
among_left [] ys v here = elim here [ ]
among_left (x ∷ xs) ys v (inl is) = inl is
among_left (x ∷ xs) ys v (inr later) = inr (among_left xs ys v later)

pub among_last : {V : Type 0} (xs : List V) (v : V) → Among (xs ++ v ∷ []) v
among_last [] v = inl refl
among_last (x ∷ xs) v = inr (among_last xs v)

pub among_push : {V : Type 0} (xs : List V) (y v : V) → Among (xs ++ y ∷ []) v → Among xs v ⊎ (y ≡ v)
among_push [] y v (inl is) = inr is
among_push [] y v (inr none) = elim none [ ]
among_push (x ∷ xs) y v (inl is) = inl (inl is)
among_push (x ∷ xs) y v (inr later) =
    elim (among_push xs y v later) [
      | inl before ↦ inl (inr before)
      | inr is ↦ inr is
    ]

pub get_within : {V : Type 0} (xs ys : List V) (k : ℕ) → k < length xs → slice_get (xs ++ ys) k ≡ slice_get xs k
get_within [] ys k within = absurd (omega (arith, within))
get_within (x ∷ xs) ys zero within = refl
get_within (x ∷ xs) ys (suc k) within = get_within xs ys k (omega (arith, within))

-- what stands in a list stands at a place
pub place_of : {V : Type 0} (xs : List V) (v : V) → Among xs v → (k : ℕ) × (k < length xs) × (slice_get xs k ≡ Some v)
place_of [] v here = elim here [ ]
place_of (x ∷ xs) v (inl is) = (0, omega arith, ap Some is)
place_of (x ∷ xs) v (inr later) =
    let p = place_of xs v later in
    (suc p.0, omega (arith, p.1), p.2)

pub among_at : {V : Type 0} (xs : List V) (k : ℕ) (v : V) → slice_get xs k ≡ Some v → Among xs v
among_at [] k v is = absurd (cc)
among_at (x ∷ xs) zero v is = inl (cc)
among_at (x ∷ xs) (suc k) v is = inr (among_at xs k v is)

pub among_all : {V : Type 0} (P : V → Type 0) (xs : List V) → All P xs → (v : V) → Among xs v → P v
among_all P [] all v here = elim here [ ]
among_all P (x ∷ xs) all v (inl is) = rw (sym is) (All-head P x xs all)
among_all P (x ∷ xs) all v (inr later) = among_all P xs (All-tail P x xs all) v later

-- one of them passes a test
pub any_among : {V : Type 0} (p : V → Bool) (xs : List V) (v : V) → Among xs v → p v ≡ true → list_any p xs ≡ true
any_among p [] v here is_so = elim here [ ]
any_among p (x ∷ xs) v (inl is) is_so = or_left (p x) (list_any p xs) (ap p is ∙ is_so)
any_among p (x ∷ xs) v (inr later) is_so = or_right (p x) (list_any p xs) (any_among p xs v later is_so)

pub among_any : {V : Type 0} (p : V → Bool) (xs : List V) → list_any p xs ≡ true → (v : V) × Among xs v × (p v ≡ true)
among_any p [] any = absurd (cc)
among_any p (x ∷ xs) any =
    elim (or_cases (p x) (list_any p xs) any) [
      | inl is_so ↦ (x, inl refl, is_so)
      | inr later ↦ let r = among_any p xs later in (r.0, inr r.1, r.2)
    ]

pub none_among : {V : Type 0} (p : V → Bool) (xs : List V) (v : V) → list_any p xs ≡ false → Among xs v → p v ≡ false
none_among p [] v none here = elim here [ ]
none_among p (x ∷ xs) v none (inl is) = ap p (sym is) ∙ (or_parts (p x) (list_any p xs) none).0
none_among p (x ∷ xs) v none (inr later) = none_among p xs v (or_parts (p x) (list_any p xs) none).1 later

-- what stands in a list stands in an equal one
pub moved_among : {V : Type 0} (xs ys : List V) (v : V) → xs ≡ ys → Among xs v → Among ys v
moved_among xs ys v is here = rw (sym is) here

pub le_of_lt_more : (k i : ℕ) → k < i + 1 → k ≤ i
le_of_lt_more k i before = omega (arith, before)

-- how many marks there are, by cases on the list
abbrev pub how_many : List Bool → ℕ
how_many [] = 0
how_many (true ∷ ms) = suc (how_many ms)
how_many (false ∷ ms) = how_many ms

pub how_many_within : (ms : List Bool) → how_many ms ≤ length ms
how_many_within [] = omega arith
how_many_within (true ∷ ms) = let rest = how_many_within ms in omega (arith, rest)
how_many_within (false ∷ ms) = let rest = how_many_within ms in omega (arith, rest)

pub how_many_none : (n : ℕ) → how_many (replicate n false) ≡ 0
how_many_none zero = refl
how_many_none (suc n) = how_many_none n

pub none_marked : (n w : ℕ) → get_or (replicate n false) w false ≡ false
none_marked zero w = refl
none_marked (suc n) zero = refl
none_marked (suc n) (suc w) = none_marked n w

pub how_many_set : (ms : List Bool) (w : ℕ) → w < length ms → get_or ms w false ≡ false → how_many (set ms w true) ≡ suc (how_many ms)
how_many_set [] w within not_yet = absurd (omega (arith, within))
how_many_set (true ∷ ms) zero within not_yet = absurd (cc)
how_many_set (false ∷ ms) zero within not_yet = refl
how_many_set (true ∷ ms) (suc w) within not_yet = ap suc (how_many_set ms w (omega (arith, within)) not_yet)
how_many_set (false ∷ ms) (suc w) within not_yet = how_many_set ms w (omega (arith, within)) not_yet
