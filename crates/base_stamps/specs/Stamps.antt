-- The texts of an epoch and of a moment: civil times in UTC, as ISO 8601 writes them (this profile: years of four digits, a letter T between date and time, a letter Z at the end).
use Rattle.std.specs.Prelude.{ℕ, ◌+◌, ◌/◌, ◌%◌, List, ◌++◌, codes}
use Rattle.base_stamps.specs.Civil.{date_of, date_text, time_text, three_digits}

-- the civil time so many seconds after 1970-01-01T00:00:00
abbrev pub civil_text : ℕ → List ℕ
civil_text seconds = date_text (date_of (seconds / 86400)) ++ codes "T" ++ time_text seconds

-- the seconds from 1970-01-01T00:00:00 to the end of the year 2399, in which each epoch lies
abbrev pub epoch_bound : ℕ
epoch_bound = 13569465600

-- an epoch: `2024-02-29T23:59:59Z`
abbrev pub epoch_text : ℕ → List ℕ
epoch_text seconds = civil_text seconds ++ codes "Z"

-- the stamp of a moment, in milliseconds after an epoch: `2024-03-01T00:00:00.000Z`
abbrev pub stamp : ℕ → ℕ → List ℕ
stamp epoch moment = civil_text (epoch + moment / 1000) ++ codes "." ++ three_digits (moment % 1000) ++ codes "Z"
