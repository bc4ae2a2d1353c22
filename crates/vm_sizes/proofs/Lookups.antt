-- What a look-up by a number gives.
use Rattle.std.proofs.Common.{◌≡◌, refl, sym, ℕ, List, length, get_or, true, false}
use Rattle.std.specs.Prelude.{nat_lt, slice_get, Some, None}
use Rattle.std.proofs.lemmas.Bool.{ltb-true, ltb-false}
use Rattle.std.proofs.lemmas.Option.{slice_get_read, slice_get_past}

module _ {A : Type 0} (xs : List A) (k : ℕ) where
  pub found : (x : A) → true ≡ nat_lt k (length xs) → x ≡ get_or xs k x → slice_get xs k ≡ Some x
  found x within is = slice_get_read xs (length xs) k x refl (ltb-true k (length xs) (sym within)) is

  pub missed : false ≡ nat_lt k (length xs) → slice_get xs k ≡ None
  missed past = slice_get_past xs k (ltb-false k (length xs) (sym past))
