-- Codes, and one more.
use Rattle.std.proofs.Common.{◌≡◌, ◌∙◌, ap, sym, subst, refl, ℕ, zero, suc, List, [], ◌∷◌, ◌++◌, ◌⊎◌, inl, inr, length, Some}
use Rattle.std.specs.Prelude.{slice_get}
use Rattle.std.proofs.lemmas.Option.{none-some, same_Some}
use Rattle.acc_vm.specs.Codes.{PlainCode}

-- an element of a list with one more is one of the list, or the last
last_or : {A : Type 0} (xs : List A) (y x : A) (n : ℕ) → slice_get (xs ++ y ∷ []) n ≡ Some x → (slice_get xs n ≡ Some x) ⊎ ((n ≡ length xs) × (y ≡ x))
last_or [] y x zero at = inr (refl, same_Some y x at)
last_or [] y x (suc n) at = absurd (none-some x at)
last_or (a ∷ xs) y x zero at = inl at
last_or (a ∷ xs) y x (suc n) at =
    elim (last_or xs y x n at) [
      | inl before ↦ inl before
      | inr last ↦ inr (ap suc last.0, last.1)
    ]

-- what each code of a list is by its number
abbrev pub Each : (ℕ → PlainCode → Type 0) → List PlainCode → Type 0
Each P codes = (n : ℕ) (code : PlainCode) → slice_get codes n ≡ Some code → P n code

pub none_yet : (P : ℕ → PlainCode → Type 0) (codes : List PlainCode) → codes ≡ [] → Each P codes
none_yet P codes e n code at = absurd (none-some code (ap (λ (l : List PlainCode). slice_get l n) (sym e) ∙ at))

pub one_more : (P : ℕ → PlainCode → Type 0) (codes after : List PlainCode) (code : PlainCode) → after ≡ codes ++ code ∷ [] → Each P codes → P (length codes) code → Each P after
one_more P codes after code e before is n c at =
    elim (last_or codes code c n (ap (λ (l : List PlainCode). slice_get l n) (sym e) ∙ at)) [
      | inl old ↦ before n c old
      | inr last ↦ subst (λ m. P m c) (sym last.0) (subst (P (length codes)) last.1 is)
    ]
