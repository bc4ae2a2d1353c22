-- Writing at places of a text that has room.
use Rattle.std.specs.Prelude.{◌≡◌, ℕ, ◌+◌, ◌≤◌, List, ◌++◌, length, take}
use Rattle.serve_lines.specs.Lines.{alarm_front, out_front}

-- new has xs after the first `at` bytes of old, up to `end`, and is as long
pub record IsPlaced (old new : List ℕ) (at : ℕ) (xs : List ℕ) (end : ℕ) : Type 0 where
  pub bytes : take end new ≡ take at old ++ xs
  pub moved : end ≡ at + length xs
  pub len : length new ≡ length old

-- up to `end` new is the first `at` bytes of old, and xs after them; what is beyond that doesn't count
pub record IsPut (old new : List ℕ) (at : ℕ) (xs : List ℕ) (end : ℕ) : Type 0 where
  pub bytes : take end new ≡ take at old ++ xs
  pub within : end ≤ length new

-- a moment and a name that leave a line short: of at most 20 and 36 bytes
pub record IsShort (moment name : List ℕ) : Type 0 where
  pub digits : length moment ≤ 20
  pub letters : length name ≤ 36

-- new is old, and after it room for a short line
pub record IsOpened (old new : List ℕ) : Type 0 where
  pub first : take (length old) new ≡ old
  pub room : length old + 96 ≤ length new

-- of 32 bytes the first are what the ALARM lines of a moment begin with
pub record IsFront (moment : ℕ) (bytes : List ℕ) (size : ℕ) : Type 0 where
  pub few : size ≤ 32
  pub room : length bytes ≡ 32
  pub text : take size bytes ≡ alarm_front moment

-- of 32 bytes the first are what the OUT lines of a moment begin with
pub record IsOutFront (moment : ℕ) (bytes : List ℕ) (size : ℕ) : Type 0 where
  pub few : size ≤ 32
  pub room : length bytes ≡ 32
  pub text : take size bytes ≡ out_front moment
