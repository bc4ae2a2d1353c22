-- The pages of a journal.
use Rattle.std.specs.Prelude.{◌≡◌, ℕ, ◌+◌, Bool, ◌&&◌, nat_le, nat_lt, List, map, filter}
use Rattle.engine.specs.Journal.{NamedRow, named_text}

-- a row of a page: its number is from this one on, and among the next so many
abbrev pub is_on_page : ℕ → ℕ → NamedRow → Bool
is_on_page from n row = nat_le from row.number && nat_lt row.number (from + n)

-- a page of a journal with this epoch: the texts of exactly its rows, in order
abbrev pub IsPage : ℕ → List NamedRow → ℕ → ℕ → List (List ℕ) → Type 0
IsPage epoch journal from n texts = texts ≡ map (named_text epoch) (filter (is_on_page from n) journal)
