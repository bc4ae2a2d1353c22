-- Typed literals and the sign of a value.
use Rattle.std.specs.Prelude.{◌≡◌, ℕ, ℤ, pos, neg_ℤ, Bool, true, false, ◌||◌, IsTrue, List, ◌++◌, length, take, drop, codes, FitsSigned}
use Rattle.std.specs.Int.{w32}
use Rattle.plant_types.specs.Words.{same_word}
use Rattle.st_lexer.specs.Numbers.{IsInteger}

-- the bytes begin with this word, in any letter case
abbrev pub begins_word : List ℕ → List ℕ → Bool
begins_word word bs = same_word (take (length word) bs) word

-- a number with its sign
abbrev pub signed : Bool → ℕ → ℤ
signed true n = neg_ℤ (pos n)
signed false n = pos n

-- an optional sign and an integer
pub data IsSigned (bs : List ℕ) (value : ℤ) : Type 0 where
  unsigned : (n : ℕ) → IsInteger bs n → value ≡ signed false n → IsSigned bs value
  plus : (digits : List ℕ) (n : ℕ) → bs ≡ codes "+" ++ digits → IsInteger digits n → value ≡ signed false n → IsSigned bs value
  minus : (digits : List ℕ) (n : ℕ) → bs ≡ codes "-" ++ digits → IsInteger digits n → value ≡ signed true n → IsSigned bs value

-- `DINT#`, an optional sign and an integer, in the range of 32 bits
pub record IsDint (bs : List ℕ) (value : ℤ) : Type 0 where
  pub prefix : IsTrue (begins_word (codes "DINT#") bs)
  pub is_signed : IsSigned (drop 5 bs) value
  pub range : FitsSigned w32 value

-- `BOOL#` and 1 or TRUE, 0 or FALSE
abbrev pub is_truth : Bool → List ℕ → Bool
is_truth true bs = same_word bs (codes "BOOL#1") || same_word bs (codes "BOOL#TRUE")
is_truth false bs = same_word bs (codes "BOOL#0") || same_word bs (codes "BOOL#FALSE")
