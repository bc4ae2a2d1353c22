-- Numbers in decimal digits. Leading zeros count as digits.
use Rattle.std.specs.Prelude.{ℕ, ◌==◌, ◌∷◌, [], List, if◌then◌else◌, length, nat_lt, Option, Some, None, ℤ, pos, neg_ℤ}
use Rattle.std.specs.List.{list_all}
use Rattle.std.specs.Option.{option_map}
use Rattle.std.specs.Char.{is_ascii_digit}
use Rattle.std.specs.Str.Parse.{digits_value}

-- the number of a word of 1 to most digits; none for any other word
abbrev pub number_of : ℕ → List ℕ → Option ℕ
number_of most word = if length word == 0 then None else if nat_lt most (length word) then None
    else if list_all is_ascii_digit word then Some (digits_value 10 word) else None

-- the number of a word of 1 to 19 digits, perhaps with a minus before it; none for any other word
abbrev pub whole_of : List ℕ → Option ℤ
whole_of [] = None
whole_of (b ∷ bs) = if b == 45 then option_map (λ n. neg_ℤ (pos n)) (number_of 19 bs) else option_map pos (number_of 19 (b ∷ bs))
