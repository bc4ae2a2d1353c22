-- The words of a line, which spaces and tabs separate.
use Rattle.std.specs.Prelude.{ℕ, ◌==◌, ◌||◌, ◌∷◌, [], List, Bool, true, if◌then◌else◌}

-- whether a byte separates words: a space or a tab
abbrev pub is_gap : ℕ → Bool
is_gap b = (b == 32) || (b == 9)

-- whether no word begins or goes on here: at a space, a tab or the line's end
abbrev pub at_gap : List ℕ → Bool
at_gap [] = true
at_gap (b ∷ bs) = is_gap b

-- the words with a byte put before the first of them
abbrev pub onto_word : ℕ → List (List ℕ) → List (List ℕ)
onto_word b [] = (b ∷ []) ∷ []
onto_word b (w ∷ ws) = (b ∷ w) ∷ ws

-- the words of a line: the longest runs of bytes without a space or a tab
abbrev pub words_of : List ℕ → List (List ℕ)
words_of [] = []
words_of (b ∷ bs) = if is_gap b then words_of bs else if at_gap bs then (b ∷ []) ∷ words_of bs else onto_word b (words_of bs)
