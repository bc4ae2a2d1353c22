-- The text that the calendar library prints for an instant.
use Rattle.std.specs.Prelude.{◌≡◌, List, ℕ, ◌++◌, codes, None, false}
use Rattle.jiff.specs.Words.{civil_nanos, datetime_text}
use Rattle.jiff.specs.Types.{DateTime, Timestamp}

-- `YYYY-MM-DDTHH:MM:SSZ`, with a fraction where the civil time has one
abbrev pub instant_text : DateTime → List ℕ
instant_text time = datetime_text false 84 None time ++ codes "Z"

-- the text is that of an instant
abbrev pub IsInstantText : List ℕ → Timestamp → Type 0
IsInstantText text instant = (time : DateTime) × (civil_nanos time ≡ instant.nanosecond) × (text ≡ instant_text time)
