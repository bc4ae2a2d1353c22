-- What is picked out of all.
use Rattle.std.proofs.Common.{◌≡◌, ◌<◌, ◌+◌, ◌++◌, ℕ, zero, suc, length, map, take, get_or, arith, List, [], ◌∷◌, ap, sym, ◌∙◌}
use Rattle.std.specs.Prelude.{slice_set}
use Rattle.std.proofs.lemmas.List.{length-set, map_more, take_more_set}

-- what a list has at a place is there by any default
pub any_default : {A : Type 0} (xs : List A) (i : ℕ) (x d : A) → i < length xs → x ≡ get_or xs i x → x ≡ get_or xs i d
any_default [] i x d within h = absurd (omega arith)
any_default (y ∷ xs) zero x d within h = h
any_default (y ∷ xs) (suc i) x d within h = any_default xs i x d (omega arith) h

-- one more item is picked into a list of so many
pub picked_more : {A : Type 0} (f : ℕ → A) (slots : List ℕ) (picked : List A) (i s : ℕ) (x : A) → (length picked ≡ length slots) × (take i picked ≡ map f (take i slots)) → i < length slots → s ≡ get_or slots i s → x ≡ f s
    → (length (slice_set picked i x) ≡ length slots) × (take (i + 1) (slice_set picked i x) ≡ map f (take (i + 1) slots))
picked_more {A} f slots picked i s x h lt is e = (
  length-set picked i x ∙ h.0,
  take_more_set picked i x (omega (arith, lt, h.0)) ∙ ap (λ (l : List A). l ++ x ∷ []) h.1 ∙ ap (λ (y : A). map f (take i slots) ++ y ∷ []) (e ∙ ap f is) ∙ sym (map_more f slots i s lt),
)
