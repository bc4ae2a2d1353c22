-- A search, as a function of lists.
use Rattle.std.specs.Prelude.{ℕ, Bool, false, true, if◌then◌else◌, List, [], ◌∷◌, ◌++◌, get_or, set}

-- the marks, and the marked numbers in the order in which they were found
abbrev pub Search : Type 0
Search = List Bool × List ℕ

-- a number is marked and listed, unless it is marked already
abbrev pub seen : ℕ → Search → Search
seen w s = if get_or s.0 w false then s else (set s.0 w true, s.1 ++ w ∷ [])

-- the same of each number of a row in turn
abbrev pub seen_all : List ℕ → Search → Search
seen_all [] s = s
seen_all (w ∷ ws) s = seen_all ws (seen w s)
