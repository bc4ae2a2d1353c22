-- Names in a list.
use Rattle.std.specs.Prelude.{ℕ, Bool, List, Option, position}
use Rattle.std.specs.List.{list_any}
use Rattle.plant_types.specs.Words.{same_word}

-- the number of the first name that is the same word
abbrev pub find_name : List (List ℕ) → List ℕ → Option ℕ
find_name names name = position (same_word name) names

-- whether a name is the same word as one of them
abbrev pub is_among : List (List ℕ) → List ℕ → Bool
is_among names name = list_any (same_word name) names
