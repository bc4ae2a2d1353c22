-- Durations: parts of a number and a unit, and their exact sum in milliseconds.
use Rattle.std.specs.Prelude.{◌≡◌, ℕ, ◌+◌, ◌*◌, ◌^◌, ℤ, true, false, not, ◌==◌, IsTrue, List, [], ◌∷◌, ◌++◌, length, filter, drop, codes, ◌⊎◌, FitsSigned}
use Rattle.std.specs.Int.{w64}
use Rattle.plant_types.specs.Words.{same_word}
use Rattle.st_lexer.specs.declared.durations.TimeUnit.{TimeUnit}
use Rattle.st_lexer.specs.declared.durations.TimeUnit.TheVariants as u
use Rattle.st_lexer.specs.Numbers.{is_number, number_value}
use Rattle.st_lexer.specs.Literals.{begins_word, signed}

-- how a unit is spelled
abbrev pub unit_spelling : TimeUnit → List ℕ
unit_spelling u.Day = codes "D"
unit_spelling u.Hour = codes "H"
unit_spelling u.Minute = codes "M"
unit_spelling u.Second = codes "S"
unit_spelling u.Millisecond = codes "MS"

-- the length of a unit in milliseconds
abbrev pub milliseconds_in : TimeUnit → ℕ
milliseconds_in u.Day = 86400000
milliseconds_in u.Hour = 3600000
milliseconds_in u.Minute = 60000
milliseconds_in u.Second = 1000
milliseconds_in u.Millisecond = 1

-- the units in their order
abbrev pub units : List TimeUnit
units = u.Day ∷ u.Hour ∷ u.Minute ∷ u.Second ∷ u.Millisecond ∷ []

-- how many digits stand after a point
abbrev pub decimal_places : List ℕ → ℕ
decimal_places fraction = length (filter (λ b. not (b == 95)) fraction)

-- Which bytes spell n milliseconds with this unit and later ones, where `later` says it of only the later ones:
-- the unit isn't used; or its part is the last, with a whole number or with a point and digits; or parts of later units follow it.
pub data Parts (later : List ℕ → ℕ → Type 0) (unit : TimeUnit) (bs : List ℕ) (n : ℕ) : Type 0 where
  without : later bs n → Parts later unit bs n
  last : (whole name : List ℕ) → bs ≡ whole ++ name → IsTrue (is_number 10 whole) → IsTrue (same_word name (unit_spelling unit))
      → n ≡ number_value 10 whole * milliseconds_in unit → Parts later unit bs n
  pointed : (whole fraction name : List ℕ) → bs ≡ whole ++ 46 ∷ (fraction ++ name) → IsTrue (is_number 10 whole) → IsTrue (is_number 10 fraction) → IsTrue (same_word name (unit_spelling unit))
      → n * 10 ^ decimal_places fraction ≡ (number_value 10 whole * 10 ^ decimal_places fraction + number_value 10 fraction) * milliseconds_in unit → Parts later unit bs n
  followed : (whole name tail rest : List ℕ) (m : ℕ) → bs ≡ whole ++ (name ++ tail) → IsTrue (is_number 10 whole) → IsTrue (same_word name (unit_spelling unit))
      → (tail ≡ rest) ⊎ (tail ≡ 95 ∷ rest) → later rest m → n ≡ number_value 10 whole * milliseconds_in unit + m → Parts later unit bs n

-- the bytes are parts with units of this list in its order, each at most once, and last n milliseconds
abbrev pub Lasts : List TimeUnit → List ℕ → ℕ → Type 0
Lasts [] bs n = ⊥
Lasts (unit ∷ later) bs n = Parts (Lasts later) unit bs n

-- an optional minus and parts
pub data IsTimed (bs : List ℕ) (value : ℤ) : Type 0 where
  forward : (n : ℕ) → Lasts units bs n → value ≡ signed false n → IsTimed bs value
  backward : (parts : List ℕ) (n : ℕ) → bs ≡ codes "-" ++ parts → Lasts units parts n → value ≡ signed true n → IsTimed bs value

-- `T#` or `TIME#`, an optional minus and parts, in the range of 64 bits
pub data IsDuration (bs : List ℕ) (value : ℤ) : Type 0 where
  short : IsTrue (begins_word (codes "T#") bs) → IsTimed (drop 2 bs) value → FitsSigned w64 value → IsDuration bs value
  long : IsTrue (begins_word (codes "TIME#") bs) → IsTimed (drop 5 bs) value → FitsSigned w64 value → IsDuration bs value
