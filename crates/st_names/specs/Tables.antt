-- What names stand for, as a list of entries: a name and a value.
use Rattle.std.specs.Prelude.{ℕ, if◌then◌else◌, List, [], ◌∷◌, ◌++◌, Option, Some, None, is_some}
use Rattle.plant_types.specs.Words.{same_word}

module _ {T : Type 0} where
  -- the value of the first entry of a name, letter case ignored
  abbrev pub value_of : List (List ℕ × T) → List ℕ → Option T
  value_of [] name = None
  value_of (e ∷ es) name = if same_word name e.0 then Some e.1 else value_of es name

  -- entries and one more, unless its name has one already
  abbrev pub with_entry : List (List ℕ × T) → List ℕ × T → List (List ℕ × T)
  with_entry es e = if is_some (value_of es e.0) then es else es ++ e ∷ []

  -- entries and those of a list, one after another
  abbrev pub with_entries : List (List ℕ × T) → List (List ℕ × T) → List (List ℕ × T)
  with_entries es [] = es
  with_entries es (e ∷ rest) = with_entries (with_entry es e) rest
