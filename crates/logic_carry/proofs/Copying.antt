-- Cells that are carried one after another.
use Rattle.std.proofs.Common.{◌≡◌, ◌∙◌, ap, sym, subst, refl, arith, ℕ, zero, suc, ◌+◌, ◌<◌, List, [], ◌∷◌, ◌++◌, length, get_or, Option, Some, None, slice_get, inl, inr}
use Rattle.std.proofs.lemmas.Option.{slice_get-get_or}
use Rattle.logic_carry.specs.Keeping.{carried_one, AreCarried}
use Rattle.logic_carry.proofs.Placing.{same_or_not}

module _ {A : Type 0} where
  push_at : (xs : List A) (x : A) (n : ℕ) → length xs ≡ n → slice_get (xs ++ x ∷ []) n ≡ Some x
  push_at [] x zero long = refl
  push_at [] x (suc n) long = absurd (omega (arith, long))
  push_at (y ∷ ys) x zero long = absurd (omega (arith, long))
  push_at (y ∷ ys) x (suc n) long = push_at ys x n (omega (arith, long))

  push_below : (xs : List A) (x : A) (m : ℕ) → m < length xs → slice_get (xs ++ x ∷ []) m ≡ slice_get xs m
  push_below [] x m less = absurd (omega (arith, less))
  push_below (y ∷ ys) x zero less = refl
  push_below (y ∷ ys) x (suc m) less = push_below ys x m (omega (arith, less))

  push_long : (xs : List A) (x : A) → length (xs ++ x ∷ []) ≡ length xs + 1
  push_long [] x = refl
  push_long (y ∷ ys) x = let rest = push_long ys x in omega (arith, rest)

  module _ (before here : List A) (kept : List (Option ℕ)) where
    pub carried_none : AreCarried before here kept 0 []
    carried_none = record { long = refl; each = λ m x less at. absurd (omega (arith, less)) }

    pub carried_more : (n : ℕ) (after : List A) (x : A) → slice_get here n ≡ Some x → AreCarried before here kept n after → AreCarried before here kept (n + 1) (after ++ carried_one before x (get_or kept n None) ∷ [])
    carried_more n after x here_is are =
        let v = carried_one before x (get_or kept n None) in
        record {
          long = push_long after v ∙ ap (λ k. k + 1) are.long;
          each = λ m y less at. elim (same_or_not m n) [
            | inl same ↦
                let both : Some x ≡ Some y = sym here_is ∙ ap (slice_get here) (sym same) ∙ at in
                let one : x ≡ y = cc in
                ap (slice_get (after ++ v ∷ [])) same ∙ push_at after v n are.long ∙ (λ i. Some (carried_one before (one i) (get_or kept (sym same i) None)))
            | inr other ↦
                let long = are.long in
                let below : m < n = omega (arith, less, other) in
                push_below after v m (omega (arith, below, long)) ∙ are.each m y below at
          ];
        }

    pub carried_step : (n : ℕ) (after after' : List A) (x : A) (o : Option ℕ) → n < length here → o ≡ get_or kept n None → after' ≡ after ++ carried_one before (get_or here n x) o ∷ [] → AreCarried before here kept n after → AreCarried before here kept (n + 1) after'
    carried_step n after after' x o less o_is is are =
        let one = carried_more n after (get_or here n x) (slice_get-get_or here n x less) are in
        subst (AreCarried before here kept (n + 1)) (sym (is ∙ ap (λ (k : Option ℕ). after ++ carried_one before (get_or here n x) k ∷ []) o_is)) one
