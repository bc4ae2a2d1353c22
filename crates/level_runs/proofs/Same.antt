-- Lists with the same items are one list.
use Rattle.std.proofs.Common.{◌≡◌, ℕ, suc, List, [], ◌∷◌, refl}
use Rattle.std.specs.Prelude.{slice_get}
use Rattle.std.proofs.lemmas.Option.{same_Some}

pub same_get : {X : Type 0} (xs ys : List X) → ((i : ℕ) → slice_get xs i ≡ slice_get ys i) → xs ≡ ys
same_get [] [] same = refl
same_get [] (y ∷ ys) same = absurd (let e = same 0 in cc)
same_get (x ∷ xs) [] same = absurd (let e = same 0 in cc)
same_get (x ∷ xs) (y ∷ ys) same = let first : x ≡ y = same_Some x y (same 0) in λ i. first i ∷ same_get xs ys (λ n. same (suc n)) i
