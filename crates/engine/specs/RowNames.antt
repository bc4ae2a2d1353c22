-- The names with which the rows of a journal are printed.
use Rattle.std.specs.Prelude.{◌≡◌, ℕ, ◌<◌, ◌≤◌, List, length, slice_get, Some}
use Rattle.journal_core.specs.declared.row.Row.{Row}
use Rattle.engine_system.specs.Plants.{PlainPlant}
use Rattle.engine.specs.Journal.{IsNamed, name_of}

-- a plant has what each row names from a place on
abbrev pub HaveOtherNames : List Row → ℕ → PlainPlant → Type 0
HaveOtherNames rows first plant = (n : ℕ) (row : Row) → slice_get rows n ≡ Some row → first ≤ n → IsNamed plant row.entry

-- each row has the name that its plant gave it: the first ones have names that are kept, the others have those of the present plant
pub record HaveNames (plants : List PlainPlant) (rows : List Row) (names : List (List ℕ)) (present : PlainPlant) : Type 0 where
  pub few : length names ≤ length rows
  pub kept : (n : ℕ) (plant : PlainPlant) (row : Row) → slice_get plants n ≡ Some plant → slice_get rows n ≡ Some row → n < length names → slice_get names n ≡ Some (name_of plant row.entry)
  pub others : (n : ℕ) (plant : PlainPlant) (row : Row) → slice_get plants n ≡ Some plant → slice_get rows n ≡ Some row → length names ≤ n → name_of present row.entry ≡ name_of plant row.entry
  pub named : HaveOtherNames rows (length names) present
