-- What a byte of a source may be.
use Rattle.std.specs.Prelude.{ℕ, Bool, true, false, not, ◌||◌, ◌&&◌, ◌==◌, if◌then◌else◌, List, [], ◌∷◌}
use Rattle.std.specs.Char.{is_ascii_digit}
use Rattle.plant_types.specs.Words.{is_letter, is_name_byte}
use Rattle.st_lexer.specs.declared.bytes.First.{First}
use Rattle.st_lexer.specs.declared.bytes.First.TheVariants as f

-- space, tab, line feed, form feed, carriage return
unfoldable pub is_blank : ℕ → Bool
is_blank b = b == 32 || b == 9 || b == 10 || b == 12 || b == 13

-- a letter, digit, underscore or `#`, which may not directly follow a word, literal or address
unfoldable pub is_tied : ℕ → Bool
is_tied b = is_name_byte b || b == 35

-- the first byte passes
abbrev pub begins_by : (ℕ → Bool) → List ℕ → Bool
begins_by test [] = false
begins_by test (b ∷ bs) = test b

-- the bytes begin with no letter, digit, underscore or `#`
abbrev pub stands_apart : List ℕ → Bool
stands_apart rest = not (begins_by is_tied rest)

-- each byte passes, or is a mark directly before one that passes
abbrev pub is_linked : (ℕ → Bool) → ℕ → List ℕ → Bool
is_linked test mark [] = true
is_linked test mark (b ∷ bs) = (test b || (b == mark && begins_by test bs)) && is_linked test mark bs

-- bytes that pass, with single marks between them
abbrev pub is_grouped : (ℕ → Bool) → ℕ → List ℕ → Bool
is_grouped test mark bs = begins_by test bs && is_linked test mark bs

-- the kind of piece that a byte begins
unfoldable pub first_of : ℕ → First
first_of b =
    if is_blank b then f.Blank
    else if is_letter b then f.Letter
    else if is_ascii_digit b then f.Digit
    else if b == 37 then f.Percent
    else f.Mark
