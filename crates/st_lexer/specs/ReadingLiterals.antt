-- How the code parses literals: functions that find what the definitions describe.
use Rattle.std.specs.Prelude.{ℕ, ◌+◌, ◌*◌, ◌/◌, ◌%◌, ◌^◌, ◌==◌, ℤ, nat_le, nat_lt, Bool, true, false, ◌&&◌, ◌||◌, if◌then◌else◌, List, [], ◌∷◌, length, take, drop, codes, Option, Some, None, option_map}
use Rattle.std.specs.List.{prefix_len}
use Rattle.std.specs.Char.{is_digit, is_ascii_alphabetic, digit_value}
use Rattle.plant_types.specs.Options.{◌>>=◌}
use Rattle.plant_types.specs.Words.{same_word}
use Rattle.st_lexer.specs.declared.durations.TimeUnit.{TimeUnit}
use Rattle.st_lexer.specs.declared.durations.Number.{Number}
use Rattle.st_lexer.specs.declared.token.TokenKind.{TokenKind}
use Rattle.st_lexer.specs.declared.token.TokenKind.TheVariants as t
use Rattle.st_lexer.specs.Bytes.{begins_by, is_tied}
use Rattle.st_lexer.specs.Numbers.{base_of, digits_of}
use Rattle.st_lexer.specs.Literals.{begins_word, signed}
use Rattle.st_lexer.specs.Durations.{unit_spelling, milliseconds_in, units}

-- ---- numbers
-- the number with one digit more, if it stays below 2 ^ 64, or the same number at an underscore that a digit follows
unfoldable pub number_step : ℕ → ℕ → ℕ → List ℕ → Option ℕ
number_step base n b bs =
    if is_digit b base then (if nat_lt (n * base + digit_value b) (2 ^ 64) then Some (n * base + digit_value b) else None)
    else if b == 95 && begins_by (λ c. is_digit c base) bs then Some n
    else None

-- the number whose first digits are n and whose other digits are these
abbrev pub number_after : ℕ → ℕ → List ℕ → Option ℕ
number_after base n [] = Some n
number_after base n (b ∷ bs) = number_step base n b bs >>= λ m. number_after base m bs

-- the number that digits of a base are, with single underscores between them, below 2 ^ 64
unfoldable pub parse_number : ℕ → List ℕ → Option ℕ
parse_number base bs = if begins_by (λ b. is_digit b base) bs then number_after base 0 bs else None

-- a whole number of base 2, 8, 10 or 16, at most 2147483648
unfoldable pub parse_integer : List ℕ → Option ℕ
parse_integer bs = parse_number (base_of bs) (digits_of bs) >>= λ n. if nat_le n 2147483648 then Some n else None

-- how many bytes at the front pass, or are a mark directly before one that passes
abbrev pub linked_len : (ℕ → Bool) → ℕ → List ℕ → ℕ
linked_len test mark [] = 0
linked_len test mark (b ∷ bs) = if test b || (b == mark && begins_by test bs) then 1 + linked_len test mark bs else 0

-- ---- signs
-- a number with its sign, from -limit to limit - 1
unfoldable pub signed_within : ℕ → Bool → ℕ → Option ℤ
signed_within limit true n = if nat_le n limit then Some (signed true n) else None
signed_within limit false n = if nat_lt n limit then Some (signed false n) else None

-- ---- typed literals
-- an optional sign and a whole number, in 32 bits
unfoldable pub parse_dint : List ℕ → Option ℤ
parse_dint bs =
    if begins_by (λ b. b == 45) bs then parse_integer (drop 1 bs) >>= signed_within (2 ^ 31) true
    else if begins_by (λ b. b == 43) bs then parse_integer (drop 1 bs) >>= signed_within (2 ^ 31) false
    else parse_integer bs >>= signed_within (2 ^ 31) false

-- `BOOL#` and 1 or TRUE, 0 or FALSE
unfoldable pub parse_truth : List ℕ → Option Bool
parse_truth bs =
    if same_word bs (codes "BOOL#1") || same_word bs (codes "BOOL#TRUE") then Some true
    else if same_word bs (codes "BOOL#0") || same_word bs (codes "BOOL#FALSE") then Some false
    else None

-- ---- durations
-- how many bytes at the front are digits with single underscores between them
unfoldable pub digits_len : List ℕ → ℕ
digits_len bs = if begins_by (λ b. is_digit b 10) bs then linked_len (λ b. is_digit b 10) 95 bs else 0

-- one digit more after a point, where the last one counted so many times 10 ^ -10; a digit that would count less must be 0
unfoldable pub decimal_step : ℕ → ℕ → ℕ → Option (ℕ × ℕ)
decimal_step sum weight b =
    if b == 95 then Some (sum, weight)
    else if is_digit b 10 then (if weight == 1 then (if b == 48 then Some (sum, 1) else None) else Some (sum + digit_value b * (weight / 10), weight / 10))
    else None

-- the sum with the digits that follow
abbrev pub decimals_after : ℕ → ℕ → List ℕ → Option ℕ
decimals_after sum weight [] = Some sum
decimals_after sum weight (b ∷ bs) = decimal_step sum weight b >>= λ s. decimals_after s.0 s.1 bs

-- the digits after a point, as a multiple of 10 ^ -10
unfoldable pub parse_decimals : List ℕ → Option ℕ
parse_decimals bs = decimals_after 0 (10 ^ 10) bs

-- how many bytes at the front are letters
unfoldable pub letters_len : List ℕ → ℕ
letters_len bs = prefix_len is_ascii_alphabetic bs

-- a number without a point
abbrev pub whole_number : ℕ → Number
whole_number n = record { whole = n; decimals = 0; is_pointed = false }

-- a number with digits after a point
abbrev pub pointed_number : ℕ → ℕ → Number
pointed_number n decimals = record { whole = n; decimals = decimals; is_pointed = true }

-- the number with the digits after a point, if there are any, and the bytes after it
unfoldable pub parse_fraction : ℕ → List ℕ → Option (Number × List ℕ)
parse_fraction n bs =
    if begins_by (λ b. b == 46) bs then (if digits_len (drop 1 bs) == 0 then Some (whole_number n, bs)
    else (parse_decimals (take (digits_len (drop 1 bs)) (drop 1 bs)) >>= λ d. Some (pointed_number n d, drop (digits_len (drop 1 bs)) (drop 1 bs))))
    else Some (whole_number n, bs)

-- the number at the front, and the bytes after it
unfoldable pub leading_number : List ℕ → Option (Number × List ℕ)
leading_number bs = parse_number 10 (take (digits_len bs) bs) >>= λ n. parse_fraction n (drop (digits_len bs) bs)

-- the number at the front, the letters after it, and the bytes after them
unfoldable pub parse_part : List ℕ → Option (Number × List ℕ × List ℕ)
parse_part bs = leading_number bs >>= λ r. Some (r.0, take (letters_len r.1) r.1, drop (letters_len r.1) r.1)

-- the sum with a number of a unit, if that is a whole number of milliseconds
unfoldable pub part_added : ℕ → Number → TimeUnit → Option ℕ
part_added sum number unit =
    if (number.decimals * milliseconds_in unit) % 10 ^ 10 == 0
    then (if nat_lt (sum + (number.whole * milliseconds_in unit + number.decimals * milliseconds_in unit / 10 ^ 10)) (2 ^ 64) then Some (sum + (number.whole * milliseconds_in unit + number.decimals * milliseconds_in unit / 10 ^ 10)) else None)
    else None

-- the bytes after one underscore, if they begin with one
abbrev pub after_underscore : List ℕ → List ℕ
after_underscore bs = if begins_by (λ b. b == 95) bs then drop 1 bs else bs

-- the sum with the parts of these units, of which the next has this number and this name, and the rest comes after it
abbrev pub parts_after : List TimeUnit → ℕ → Number → List ℕ → List ℕ → Option ℕ
parts_after [] sum number name rest = None
parts_after (unit ∷ later) sum number name rest =
    if same_word name (unit_spelling unit) then (part_added sum number unit >>= λ more.
    if length rest == 0 then Some more
    else if number.is_pointed then None
    else (parse_part (after_underscore rest) >>= λ next. parts_after later more next.0 next.1 next.2))
    else parts_after later sum number name rest

-- the sum of the parts of a duration in milliseconds
unfoldable pub parse_parts : List ℕ → Option ℕ
parse_parts bs = parse_part bs >>= λ part. parts_after units 0 part.0 part.1 part.2

-- an optional minus and parts, in 64 bits
unfoldable pub parse_time : List ℕ → Option ℤ
parse_time bs = if begins_by (λ b. b == 45) bs then parse_parts (drop 1 bs) >>= signed_within (2 ^ 63) true else parse_parts bs >>= signed_within (2 ^ 63) false

-- ---- how many bytes literals have
-- how many letters, digits, underscores and `#` are at the front
abbrev pub tied_len : List ℕ → ℕ
tied_len text = prefix_len is_tied text

-- how many bytes an optional sign and what is tied together after it have
unfoldable pub signed_len : List ℕ → ℕ
signed_len text = if begins_by (λ b. b == 45 || b == 43) text then 1 + tied_len (drop 1 text) else tied_len text

-- how many bytes are tied together, and from a digit before a point on, the point and what is tied together after it
abbrev pub pointed_len : List ℕ → ℕ
pointed_len [] = 0
pointed_len (b ∷ bs) = if is_tied b then (if is_digit b 10 && begins_by (λ c. c == 46) bs then 2 + tied_len (drop 1 bs) else 1 + pointed_len bs) else 0

-- how many bytes an optional minus and the parts of a duration have
unfoldable pub timed_len : List ℕ → ℕ
timed_len text = if begins_by (λ b. b == 45) text then 1 + pointed_len (drop 1 text) else pointed_len text

-- how many bytes the word or literal at the front has, which begins with a letter
unfoldable pub lettered_len : List ℕ → ℕ
lettered_len text =
    if begins_word (codes "DINT#") text then 5 + signed_len (drop 5 text)
    else if begins_word (codes "T#") text then 2 + timed_len (drop 2 text)
    else if begins_word (codes "TIME#") text then 5 + timed_len (drop 5 text)
    else tied_len text

-- the literal that begins with a letter
unfoldable pub parse_literal : List ℕ → Option TokenKind
parse_literal bs =
    if begins_word (codes "DINT#") bs then option_map (λ v. t.Dint v) (parse_dint (drop 5 bs))
    else if begins_word (codes "T#") bs then option_map (λ v. t.Duration v) (parse_time (drop 2 bs))
    else if begins_word (codes "TIME#") bs then option_map (λ v. t.Duration v) (parse_time (drop 5 bs))
    else option_map (λ v. t.Truth v) (parse_truth bs)
