-- Which name is found.
use Rattle.std.specs.Prelude.{◌≡◌, ◌≤◌, ◌<◌, [], ℕ, true, false, List, Option, Some, None, length, slice_index_or}
use Rattle.base_words.specs.declared.table.Case.{Case}
use Rattle.base_words.specs.Tables.{key, is_alike}

-- no two of some names are one
abbrev pub AreApart : Case → List (List ℕ) → Type 0
AreApart letters names = (i k : ℕ) → i < k → k < length names → key letters (slice_index_or names i []) ≡ key letters (slice_index_or names k []) → ⊥

-- none of the names from one up to before another is one with this
abbrev pub AreOthers : Case → List (List ℕ) → ℕ → ℕ → List ℕ → Type 0
AreOthers letters names from end name = (k : ℕ) → from ≤ k → k < end → is_alike letters name (slice_index_or names k []) ≡ false

-- the last of the names that is one with this
abbrev pub IsFound : Case → List (List ℕ) → List ℕ → Option ℕ → Type 0
IsFound letters names name None = AreOthers letters names 0 (length names) name
IsFound letters names name (Some k) = (k < length names) × (is_alike letters name (slice_index_or names k []) ≡ true)
