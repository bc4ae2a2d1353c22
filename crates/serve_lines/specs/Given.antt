-- The values that a scan's words give for inputs.
use Rattle.std.specs.Prelude.{ℕ, ◌==◌, ◌∷◌, [], List, true, false, if◌then◌else◌, Option, Some, None, codes}
use Rattle.std.specs.Option.{option_map, option_and_then}
use Rattle.plant_types.specs.Pairs.{PlainPair}
use Rattle.plant_types.specs.Words.{same_word, is_name}
use Rattle.plant_types.specs.declared.values.Given.{Given}
use Rattle.plant_types.specs.declared.values.Given.TheVariants as given
use Rattle.serve_lines.specs.Numbers.{whole_of}

-- what is before the first byte c, and what is after it; none without such a byte
abbrev pub cut_at : ℕ → List ℕ → Option (List ℕ × List ℕ)
cut_at c [] = None
cut_at c (b ∷ bs) = if b == c then Some ([], bs) else option_map (λ p. (b ∷ p.0, p.1)) (cut_at c bs)

-- the value of a word: TRUE or FALSE in any letter case, or a number; none for any other word
unfoldable pub given_of : List ℕ → Option Given
given_of word = if same_word word (codes "true") then Some (given.Truth true)
    else if same_word word (codes "false") then Some (given.Truth false)
    else option_map given.Whole (whole_of word)

-- the pair of a word NAME=VALUE; none for any other word
unfoldable pub pair_of : List ℕ → Option PlainPair
pair_of word = option_and_then (λ p. if is_name p.0 then option_map (λ g. record { name = p.0; given = g }) (given_of p.1) else None) (cut_at 61 word)

-- the pairs of words that are all pairs; none if one of them isn't
abbrev pub pairs_of : List (List ℕ) → Option (List PlainPair)
pairs_of [] = Some []
pairs_of (w ∷ ws) = option_and_then (λ p. option_map (λ ps. p ∷ ps) (pairs_of ws)) (pair_of w)
