-- Whole numbers, with underscores between digits.
use Rattle.std.specs.Prelude.{ℕ, Bool, not, ◌==◌, ◌≡◌, ◌≤◌, nat_eq, if◌then◌else◌, IsTrue, List, drop, filter, codes}
use Rattle.std.specs.List.{starts_with}
use Rattle.std.specs.Char.{is_digit}
use Rattle.std.specs.Str.Parse.{digits_value}
use Rattle.st_lexer.specs.Bytes.{is_grouped}

-- digits of the base, with single underscores between digits
abbrev pub is_number : ℕ → List ℕ → Bool
is_number base bs = is_grouped (λ b. is_digit b base) 95 bs

-- their value, with the underscores left out
abbrev pub number_value : ℕ → List ℕ → ℕ
number_value base bs = digits_value base (filter (λ b. not (b == 95)) bs)

-- the base of an integer: 2, 8 or 16 where `2#`, `8#` or `16#` begins it, else 10
abbrev pub base_of : List ℕ → ℕ
base_of bs = if starts_with nat_eq bs (codes "2#") then 2 else if starts_with nat_eq bs (codes "8#") then 8 else if starts_with nat_eq bs (codes "16#") then 16 else 10

-- its digits, after that beginning
abbrev pub digits_of : List ℕ → List ℕ
digits_of bs = if starts_with nat_eq bs (codes "2#") then drop 2 bs else if starts_with nat_eq bs (codes "8#") then drop 2 bs else if starts_with nat_eq bs (codes "16#") then drop 3 bs else bs

-- the bytes spell this integer, which is at most 2147483648
pub record IsInteger (bs : List ℕ) (n : ℕ) : Type 0 where
  pub digits : IsTrue (is_number (base_of bs) (digits_of bs))
  pub value : n ≡ number_value (base_of bs) (digits_of bs)
  pub most : n ≤ 2147483648
