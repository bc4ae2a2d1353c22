-- Numbers in ascending order.
use Rattle.std.specs.Prelude.{◌≡◌, ◌<◌, ℕ, List, Some, slice_get, Contains}

-- each of some numbers is below those behind it
abbrev pub Rises : List ℕ → Type 0
Rises numbers = (i j a b : ℕ) → i < j → slice_get numbers i ≡ Some a → slice_get numbers j ≡ Some b → a < b

-- numbers are those with a property, in ascending order, and so each once
pub record IsAscendingOf (Has : ℕ → Type 0) (numbers : List ℕ) : Type 0 where
  pub all : (n : ℕ) → Has n → Contains numbers n
  pub only : (n : ℕ) → Contains numbers n → Has n
  pub rise : Rises numbers
