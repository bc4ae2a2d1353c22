-- A table of paths with one more.
use Rattle.std.proofs.Common.{◌≡◌, ◌∙◌, ap, sym, refl, arith, ℕ, ◌+◌, ◌≤◌, Bool, true, false, cond, List, [], Option, Some, None, inl, inr, ◌⊎◌}
use Rattle.std.specs.Prelude.{nat_eq}
use Rattle.std.specs.HashMap.{HashMap, get, hash_map_len}
use Rattle.std.specs.Map.{lookup}
use Rattle.std.proofs.lemmas.Bool.Decides.{nat_tests}
use Rattle.logic_carry.specs.Paths.{AreNumbered, Grows}

same_key : (a b : ℕ) → nat_eq a b ≡ true → a ≡ b
same_key a b is = grind (arith, nat_tests)

module _ (f g : ℕ → Option ℕ) (count k : ℕ) (are : AreNumbered f count) (none : f k ≡ None) (put : (q : ℕ) → g q ≡ cond (nat_eq k q) (Some (count + 1)) (f q)) where
  abbrev Either : ℕ → ℕ → Type 0
  Either q n = ((k ≡ q) × (n ≡ count + 1)) ⊎ (f q ≡ Some n)

  by_test : (q n : ℕ) (b : Bool) → nat_eq k q ≡ b → cond b (Some (count + 1)) (f q) ≡ Some n → Either q n
  by_test q n true same is = let here : Some (count + 1) ≡ Some n = is in inl (same_key k q same, cc)
  by_test q n false other is = inr is

  found : (q n : ℕ) → g q ≡ Some n → Either q n
  found q n is = by_test q n (nat_eq k q) refl (sym (put q) ∙ is)

  one_of_two : (q r n : ℕ) → Either q n → Either r n → q ≡ r
  one_of_two q r n (inl a) (inl b) = sym a.0 ∙ b.0
  one_of_two q r n (inl a) (inr b) = let less = are.within r n b in absurd (omega (arith, less, a.1))
  one_of_two q r n (inr a) (inl b) = let less = are.within q n a in absurd (omega (arith, less, b.1))
  one_of_two q r n (inr a) (inr b) = are.once q r n a b

  least : (q n : ℕ) → Either q n → 1 ≤ n
  least q n (inl a) = omega (arith, a.1)
  least q n (inr b) = are.from_one q n b

  most : (q n : ℕ) → Either q n → n ≤ count + 1
  most q n (inl a) = omega (arith, a.1)
  most q n (inr b) = let less = are.within q n b in omega (arith, less)

  pub one_more : AreNumbered g (count + 1)
  one_more = record {
    from_one = λ q n is. least q n (found q n is);
    within = λ q n is. most q n (found q n is);
    once = λ q r n a b. one_of_two q r n (found q n a) (found r n b);
  }

  kept : (q n : ℕ) (b : Bool) → nat_eq k q ≡ b → f q ≡ Some n → cond b (Some (count + 1)) (f q) ≡ Some n
  kept q n true same is = let here : Some n ≡ None = sym is ∙ ap f (sym (same_key k q same)) ∙ none in absurd (cc)
  kept q n false other is = is

  pub one_more_grows : Grows f g
  one_more_grows q n is = put q ∙ kept q n (nat_eq k q) refl is

pub same_count : (f : ℕ → Option ℕ) (a b : ℕ) → a ≡ b → AreNumbered f a → AreNumbered f b
same_count f a b same are = record {
  from_one = are.from_one;
  within = λ q n is. (let less = are.within q n is in omega (arith, less, same));
  once = are.once;
}

-- an empty table has no numbers
module _ {S : Type 0} (m : HashMap ℕ ℕ S) (empty : m.entries ≡ []) where
  none_there : (k n : ℕ) → get nat_eq m k ≡ Some n → ⊥
  none_there k n is = let none : None ≡ Some n = sym (ap (λ (es : List (ℕ × ℕ)). lookup (nat_eq k) es) empty) ∙ is in absurd (cc)

  pub none_numbered : AreNumbered (get nat_eq m) (hash_map_len m)
  none_numbered = record {
    from_one = λ k n is. absurd (none_there k n is);
    within = λ k n is. absurd (none_there k n is);
    once = λ k q n is is'. absurd (none_there k n is);
  }
