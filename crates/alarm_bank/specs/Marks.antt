-- Flags as bits of words.
use Rattle.std.specs.Prelude.{◌≡◌, ℕ, ◌+◌, ◌/◌, ◌%◌, ◌≤◌, ◌==◌, Bool, false, List, length, map, slice_index}
use Rattle.std.specs.List.{range_with_len}
use Rattle.std.specs.Int.{bit_at}

-- bit n of words of 64 bits, counted from the lowest bit of the first word
abbrev pub bit_of : List ℕ → ℕ → Bool
bit_of words n = bit_at (slice_index words (n / 64)) (n % 64) == 1

-- the flags of so many places, a bit each
unfoldable pub flags_of : ℕ → List ℕ → List Bool
flags_of count words = map (bit_of words) (range_with_len 0 count)

-- each place has a bit and there is one behind them, in no word more than that takes, and no bit behind them is set
pub record AreMarks (count : ℕ) (words : List ℕ) : Type 0 where
  pub room : length words ≡ count / 64 + 1
  pub rest : (n : ℕ) → count ≤ n → bit_of words n ≡ false
