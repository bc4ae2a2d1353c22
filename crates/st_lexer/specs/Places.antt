-- Lines and columns.
use Rattle.std.specs.Prelude.{ℕ, ◌+◌, not, ◌==◌, List, count_by, take}
use Rattle.std.specs.List.{suffix_len}

-- the line of a place, from 1: each line feed before it ends one
abbrev pub line_at : List ℕ → ℕ → ℕ
line_at text at = count_by (λ b. b == 10) (take at text) + 1

-- its column, from 1: the bytes before it in its line
abbrev pub column_at : List ℕ → ℕ → ℕ
column_at text at = suffix_len (λ b. not (b == 10)) (take at text) + 1
