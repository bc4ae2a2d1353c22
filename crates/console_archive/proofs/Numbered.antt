-- Lists whose items are numbered one after another, and the items between two numbers.
use Rattle.std.proofs.Common.{◌≡◌, ap, refl, ℕ, zero, suc, ◌+◌, ◌-◌, ◌<◌, ◌≤◌, Bool, true, false, cond, ◌&&◌, List, [], ◌∷◌, ◌++◌, length, Some, min, arith}
use Rattle.std.specs.Prelude.{nat_le, nat_lt, slice_get, filter}
use Rattle.std.proofs.lemmas.Bool.Decides.{nat_tests}

module _ {X : Type 0} (number : X → ℕ) where
  -- the first has number n, and each has the number after that of the one before it
  abbrev pub NumberedFrom : ℕ → List X → Type 0
  NumberedFrom n [] = Unit {0}
  NumberedFrom n (x ∷ xs) = (number x ≡ n) × NumberedFrom (n + 1) xs

  -- the number is from this one on, and at most that one
  abbrev pub is_between : ℕ → ℕ → X → Bool
  is_between from last x = nat_le from (number x) && nat_le (number x) last

  pub numbered_append : (n : ℕ) (xs ys : List X) → NumberedFrom n xs → NumberedFrom (n + length xs) ys → NumberedFrom n (xs ++ ys)
  numbered_append n [] ys h k = let e : n + 0 ≡ n = omega arith in rw e at k
  numbered_append n (x ∷ xs) ys h k =
      let e : n + suc (length xs) ≡ n + 1 + length xs = omega arith in
      let l : NumberedFrom (n + 1 + length xs) ys = rw e at k in
      (h.0, numbered_append (n + 1) xs ys h.1 l)

  -- tests that agree on each number that there is keep the same items
  pub same_kept : (p q : X → Bool) (n : ℕ) (xs : List X) → NumberedFrom n xs → ((x : X) → n ≤ number x → number x < n + length xs → p x ≡ q x) → filter p xs ≡ filter q xs
  same_kept p q n [] h same = refl
  same_kept p q n (x ∷ xs) h same =
      let here : p x ≡ q x = same x (omega (arith, h.0)) (omega (arith, h.0)) in
      let rest : filter p xs ≡ filter q xs = same_kept p q (n + 1) xs h.1 (λ y lo hi. same y (omega (arith, lo)) (omega (arith, hi))) in
      rw (here, rest) refl

  -- where no number passes, nothing is kept
  pub none_kept : (p : X → Bool) (n : ℕ) (xs : List X) → NumberedFrom n xs → ((x : X) → n ≤ number x → p x ≡ false) → filter p xs ≡ []
  none_kept p n [] h not_one = refl
  none_kept p n (x ∷ xs) h not_one =
      let here : p x ≡ false = not_one x (omega (arith, h.0)) in
      let rest : filter p xs ≡ [] = none_kept p (n + 1) xs h.1 (λ y lo. not_one y (omega (arith, lo))) in
      rw (here, rest) refl

  after_last : (from last : ℕ) (x : X) → last < number x → is_between from last x ≡ false
  after_last from last x h = grind (arith, nat_tests)

  -- nothing lies between a number and one below it, or below the first
  pub none_between : (from last n : ℕ) (xs : List X) → NumberedFrom n xs → last < n → filter (is_between from last) xs ≡ []
  none_between from last n xs h below = none_kept (is_between from last) n xs h (λ x lo. after_last from last x (omega (arith, lo, below)))

  kept_or_not : (b : Bool) (x : X) (us vs ws : List X) → us ≡ vs ++ ws → cond b (x ∷ us) us ≡ cond b (x ∷ vs) vs ++ ws
  kept_or_not true x us vs ws e = ap (λ l. x ∷ l) e
  kept_or_not false x us vs ws e = e

  within_last : (from last : ℕ) (x : X) → number x ≤ last → is_between from last x ≡ nat_le from (number x)
  within_last from last x h = grind (arith, nat_tests)

  is_last : (from : ℕ) (x : X) (last : ℕ) → from ≤ last → number x ≡ last → is_between from last x ≡ true
  is_last from x last h e = grind (arith, nat_tests)

  -- one number more keeps the item of that number too
  pub one_more : (from n i last : ℕ) (x : X) (xs : List X) → NumberedFrom n xs → slice_get xs i ≡ Some x → last + 1 ≡ n + i → from ≤ last + 1
      → filter (is_between from (last + 1)) xs ≡ filter (is_between from last) xs ++ x ∷ []
  one_more from n i last x [] h at e within = absurd (cc (at))
  one_more from n zero last x (y ∷ ys) h at e within =
      let here : y ≡ x = cc in
      let first : number y ≡ last + 1 = omega (arith, h.0, e) in
      let passes : is_between from (last + 1) y ≡ true = is_last from y (last + 1) within first in
      let stays : is_between from last y ≡ false = after_last from last y (omega (arith, first)) in
      let rest : filter (is_between from (last + 1)) ys ≡ [] = none_between from (last + 1) (n + 1) ys h.1 (omega (arith, e)) in
      let none : filter (is_between from last) ys ≡ [] = none_between from last (n + 1) ys h.1 (omega (arith, e)) in
      rw (passes, stays, rest, none) (ap (λ z. z ∷ []) here)
  one_more from n (suc i) last x (y ∷ ys) h at e within =
      let up : is_between from (last + 1) y ≡ nat_le from (number y) = within_last from (last + 1) y (omega (arith, h.0, e)) in
      let down : is_between from last y ≡ nat_le from (number y) = within_last from last y (omega (arith, h.0, e)) in
      rw (up, down) (kept_or_not (nat_le from (number y)) y (filter (is_between from (last + 1)) ys) (filter (is_between from last) ys) (x ∷ []) (one_more from (n + 1) i last x ys h.1 at (omega (arith, e)) within))

-- a page ends behind the row of the lesser of two numbers
pub on_page : (from n rows stop before m : ℕ) → (m < rows + 1) → stop ≡ min rows (from + n - 1) → 1 ≤ m → stop ≤ before → from - 1 ≤ before → (from - 1 ≤ stop → before ≤ stop)
    → (nat_le from m && nat_le m before) ≡ (nat_le from m && nat_lt m (from + n))
on_page from n rows stop before m within is first past start end = grind (arith, nat_tests)
