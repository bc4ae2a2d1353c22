-- Items that are put into a row, each under a number.
use Rattle.std.specs.Prelude.{◌≡◌, ◌<◌, ℕ, List, length, Some, slice_get, Contains}

-- numbers are different, and each is that of a place in a row
pub record AreApartIn (size : ℕ) (numbers : List ℕ) : Type 0 where
  pub inside : (i s : ℕ) → slice_get numbers i ≡ Some s → s < size
  pub apart : (i j s : ℕ) → slice_get numbers i ≡ Some s → slice_get numbers j ≡ Some s → i ≡ j

-- each item stands under its number, and all others of the row are as they were
pub record Puts {A : Type 0} (numbers : List ℕ) (items old new : List A) : Type 0 where
  pub size : length new ≡ length old
  pub put : (i s : ℕ) → slice_get numbers i ≡ Some s → slice_get new s ≡ slice_get items i
  pub kept : (s : ℕ) → ((i : ℕ) → slice_get numbers i ≡ Some s → ⊥) → slice_get new s ≡ slice_get old s

-- of the places of a list each item there stands under its number, and all others of the row are as they were
pub record PutsAt {A : Type 0} (places numbers : List ℕ) (items old new : List A) : Type 0 where
  pub size : length new ≡ length old
  pub put : (p s : ℕ) → Contains places p → slice_get numbers p ≡ Some s → slice_get new s ≡ slice_get items p
  pub kept : (s : ℕ) → ((p : ℕ) → Contains places p → slice_get numbers p ≡ Some s → ⊥) → slice_get new s ≡ slice_get old s
