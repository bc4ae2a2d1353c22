-- Depth, and chains of so many steps.
use Rattle.std.proofs.Common.{◌≡◌, ◌∙◌, ap, refl, ℕ, zero, suc, max, nat_lt, Bool, true, false, ◌||◌, List, [], ◌∷◌, arith, inl, inr}
use Rattle.std.specs.List.{list_any}
use Rattle.std.proofs.lemmas.Bool.Decides.{nat_tests}
use Rattle.st_blocks.proofs.Lists.{none_among}
use Rattle.st_blocks.specs.Chains.{Among, greatest, has_chain, depth}

same_greatest : {V : Type 0} (f g : V → ℕ) (xs : List V) → ((v : V) → Among xs v → f v ≡ g v) → greatest f xs ≡ greatest g xs
same_greatest f g [] same = refl
same_greatest f g (x ∷ xs) same = λ i. max (same x (inl refl) i) (same_greatest f g xs (λ v here. same v (inr here)) i)

-- as many levels as no chain has show the whole depth
pub enough : {V : Type 0} (next : V → List V) (k : ℕ) (a : V) → has_chain next k a ≡ false → depth next (suc k) a ≡ depth next k a
enough next zero a none = absurd (cc)
enough next (suc k) a none = ap suc (same_greatest (depth next (suc k)) (depth next k) (next a) (λ b here. enough next k b (none_among (has_chain next k) (next a) b none here)))

lt_max : (k a b : ℕ) → nat_lt k (max a b) ≡ (nat_lt k a || nat_lt k b)
lt_max k a b = grind (arith, nat_tests)

lt_zero : (k : ℕ) → nat_lt k 0 ≡ false
lt_zero k = grind (arith, nat_tests)

lt_suc : (k n : ℕ) → nat_lt (suc k) (suc n) ≡ nat_lt k n
lt_suc k n = grind (arith, nat_tests)

lt_some : (n : ℕ) → nat_lt 0 (suc n) ≡ true
lt_some n = grind (arith, nat_tests)

-- the greatest is above a number where one is
greatest_any : {V : Type 0} (f : V → ℕ) (p : V → Bool) (k : ℕ) (xs : List V) → ((v : V) → nat_lt k (f v) ≡ p v) → nat_lt k (greatest f xs) ≡ list_any p xs
greatest_any f p k [] same = lt_zero k
greatest_any f p k (x ∷ xs) same = lt_max k (f x) (greatest f xs) ∙ (λ i. same x i || greatest_any f p k xs same i)

pub deeper : {V : Type 0} (next : V → List V) (k : ℕ) (a : V) → nat_lt k (depth next (suc k) a) ≡ has_chain next k a
deeper next zero a = lt_some (greatest (depth next zero) (next a))
deeper next (suc k) a = lt_suc k (greatest (depth next (suc k)) (next a)) ∙ greatest_any (depth next (suc k)) (has_chain next k) k (next a) (deeper next k)
