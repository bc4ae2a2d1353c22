-- The same jobs in the same order are each run once.
use Rattle.std.proofs.Common.{◌≡◌, ℕ, zero, suc, ◌<◌, List, [], ◌∷◌, length, map, slice_index_or, arith, ap, refl, sym, ◌∙◌, subst}
use Rattle.crew.specs.Runs.{AreNumbered, IsDistinct, IsEachOnce}

apart : {S : Type 0} (number : S → ℕ) (xs : List S) → AreNumbered number xs → (i j : ℕ) (x : S) → i < j → j < length xs → slice_index_or xs i x ≡ x → slice_index_or xs j x ≡ x → ⊥
apart number xs h i j x lt inside a b = h i j x lt inside (ap number (a ∙ sym b))

-- jobs of different numbers are different
pub distinct : {S : Type 0} (number : S → ℕ) (xs : List S) → AreNumbered number xs → IsDistinct xs
distinct number xs h i j x hi hj a b =
    let f : i < j → ⊥ = (λ lt. apart number xs h i j x lt hj a b) in
    let g : j < i → ⊥ = (λ lt. apart number xs h j i x lt hi b a) in
    omega arith

pub same_once : {S : Type 0} (number : S → ℕ) (xs ys : List S) → AreNumbered number xs → ys ≡ xs → IsEachOnce xs ys
same_once {S} number xs ys h e =
    let P : List S → Type 0 = λ zs. IsEachOnce xs zs in
    subst P (sym e) (record { no_stranger = λ s has. has; no_double = distinct number xs h; none_lacking = λ s has. has })

-- lists whose elements, place by place, have one value have one list of values
pub same_maps : {X Y Z : Type 0} (f : X → Z) (g : Y → Z) (xs : List X) (ys : List Y) → length xs ≡ length ys
    → ((i : ℕ) (y : Y) (x : X) → i < length ys → f (slice_index_or xs i x) ≡ g (slice_index_or ys i y)) → map f xs ≡ map g ys
same_maps f g [] [] n h = refl
same_maps f g [] (y ∷ ys) n h = absurd (omega arith)
same_maps f g (x ∷ xs) [] n h = absurd (omega arith)
same_maps {X} {Y} {Z} f g (x ∷ xs) (y ∷ ys) n h =
    let first : f x ≡ g y = h zero y x (omega arith) in
    let rest : map f xs ≡ map g ys = same_maps f g xs ys (omega arith) (λ i b a lt. h (suc i) b a (omega arith)) in
    ap (λ (z : Z). z ∷ map f xs) first ∙ ap (λ (zs : List Z). g y ∷ zs) rest
