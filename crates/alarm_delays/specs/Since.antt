-- A moment, or none, in one number.
use Rattle.std.specs.Prelude.{◌≡◌, ℕ, zero, suc, Option, Some, None, refl}

-- the moment of a number: 0 is none, and others are 1 more than theirs
abbrev pub start_in : ℕ → Option ℕ
start_in zero = None
start_in (suc moment) = Some moment

-- the number of a moment, or of none
abbrev pub past_start : Option ℕ → ℕ
past_start None = zero
past_start (Some moment) = suc moment

-- the number of a number's moment is that number
pub past_back : (past : ℕ) → past_start (start_in past) ≡ past
past_back zero = refl
past_back (suc moment) = refl
