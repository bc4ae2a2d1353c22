-- Numbers of items in a list.
use Rattle.std.proofs.Common.{◌≡◌, ℕ, zero, suc, ◌≤◌, ◌==◌, cond, List, [], ◌∷◌, map, Some, refl, ap, arith, ⊎_elim}
use Rattle.std.specs.Prelude.{slice_get}
use Rattle.std.specs.List.{Contains, count_by}
use Rattle.std.proofs.lemmas.List.Sums.{sum_by-cons}
use Rattle.std.proofs.lemmas.Bool.{eq-eqb, ne_eqb, cases_eq}

module _ {X : Type 0} (f : X → ℕ) where
  pub numbered : (xs : List X) (n : ℕ) → Contains (map f xs) n → (x : X) × Contains xs x × (f x ≡ n)
  numbered [] n h = absurd (omega (arith, h.1))
  numbered (x ∷ xs) n (zero, lt, is) = (x, (zero, omega arith, refl), is)
  numbered (x ∷ xs) n (suc i, lt, is) = let c = numbered xs n (i, omega arith, is) in (c.0, (suc c.1.0, omega (arith, c.1.1), c.1.2), c.2)

  pub numbers : (xs : List X) (x : X) → Contains xs x → Contains (map f xs) (f x)
  numbers [] x h = absurd (omega (arith, h.1))
  numbers (y ∷ ys) x (zero, lt, is) = (zero, omega arith, ap f is)
  numbers (y ∷ ys) x (suc i, lt, is) = let c = numbers ys x (i, omega arith, is) in (suc c.0, omega (arith, c.1), c.2)

  none : (n : ℕ) (xs : List X) → ((i : ℕ) (x : X) → slice_get xs i ≡ Some x → f x ≡ n → ⊥) → count_by (λ q. q == n) (map f xs) ≡ 0
  none n [] lack = omega arith
  none n (x ∷ xs) lack =
      let off : cond {A = ℕ} (f x == n) 1 0 ≡ 0 = rw (ne_eqb (f x) n (λ e. lack 0 x refl e)) refl in
      omega (arith, sum_by-cons (λ q. cond {A = ℕ} (q == n) 1 0) (f x) (map f xs), none n xs (λ i y at e. lack (suc i) y at e))

  -- a number stands once where no two places have it
  pub once : (n : ℕ) (xs : List X) → ((i j : ℕ) (x y : X) → slice_get xs i ≡ Some x → slice_get xs j ≡ Some y → f x ≡ n → f y ≡ n → i ≡ j) → count_by (λ q. q == n) (map f xs) ≤ 1
  once n [] apart = omega arith
  once n (x ∷ xs) apart = ⊎_elim
      (λ (e : f x ≡ n).
      let rest = none n xs (λ i y at is. let z = apart 0 (suc i) x y refl at e is in omega arith) in
      let one : cond {A = ℕ} (f x == n) 1 0 ≡ 1 = rw (eq-eqb (f x) n e) refl in
      omega (arith, sum_by-cons (λ q. cond {A = ℕ} (q == n) 1 0) (f x) (map f xs)))
      (λ ne.
      let off : cond {A = ℕ} (f x == n) 1 0 ≡ 0 = rw (ne_eqb (f x) n ne) refl in
      omega (arith, sum_by-cons (λ q. cond {A = ℕ} (q == n) 1 0) (f x) (map f xs), once n xs (λ i j y z a b d e. let s = apart (suc i) (suc j) y z a b d e in omega arith)))
      (cases_eq (f x) n)
