-- How the code cuts a line: a word off its start, or a name and the = after it.
use Rattle.std.specs.Prelude.{ℕ, ◌==◌, ◌∷◌, [], List, if◌then◌else◌, Option, Some, None}
use Rattle.std.specs.Option.{option_map}
use Rattle.plant_types.specs.Words.{is_name_byte}
use Rattle.serve_lines.specs.Words.{is_gap}

-- what is before the first space or tab, and the rest from there on
abbrev pub split_word : List ℕ → List ℕ × List ℕ
split_word [] = ([], [])
split_word (b ∷ bs) = if is_gap b then ([], b ∷ bs) else (b ∷ (split_word bs).0, (split_word bs).1)

-- what is before the first byte =, if only bytes of names are, and what is after it; none for any other line
abbrev pub cut_name : List ℕ → Option (List ℕ × List ℕ)
cut_name [] = None
cut_name (b ∷ bs) = if b == 61 then Some ([], bs) else if is_name_byte b then option_map (λ p. (b ∷ p.0, p.1)) (cut_name bs) else None
