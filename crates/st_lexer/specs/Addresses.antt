-- Addresses of variables.
use Rattle.std.specs.Prelude.{ℕ, Bool, false, ◌==◌, ◌&&◌, ◌||◌, List, [], ◌∷◌, drop, codes}
use Rattle.std.specs.List.{list_any}
use Rattle.std.specs.Char.{is_ascii_digit, to_ascii_lowercase}
use Rattle.std.specs.Str.{bytes_eq}
use Rattle.plant_types.specs.declared.values.Region.{Region}
use Rattle.plant_types.specs.declared.values.Region.TheVariants as r
use Rattle.st_lexer.specs.Bytes.{begins_by, is_grouped}

-- two letters are one, whatever their case
abbrev pub same_letter : ℕ → ℕ → Bool
same_letter a b = to_ascii_lowercase a == to_ascii_lowercase b

-- the letter of a region: I, Q or M
abbrev pub letter_of : Region → ℕ
letter_of r.Input = 73
letter_of r.Output = 81
letter_of r.Plain = 77

-- the letter of a size: X, B, W, D or L
unfoldable pub is_size : ℕ → Bool
is_size b = list_any (same_letter b) (codes "XBWDL")

-- a place: `*`, or digits with points between groups of them
abbrev pub is_place : List ℕ → Bool
is_place bs = bytes_eq bs (codes "*") || is_grouped is_ascii_digit 46 bs

-- an address: `%`, the letter of its region, an optional size and a place
abbrev pub is_address : Region → List ℕ → Bool
is_address region [] = false
is_address region (p ∷ []) = false
is_address region (p ∷ l ∷ bs) = p == 37 && same_letter l (letter_of region) && (is_place bs || (begins_by is_size bs && is_place (drop 1 bs)))
