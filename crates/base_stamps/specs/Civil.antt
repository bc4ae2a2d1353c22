-- Dates of the Gregorian calendar, and their texts (ISO 8601).
use Rattle.std.specs.Prelude.{ℕ, zero, suc, ◌+◌, ◌/◌, ◌%◌, ◌==◌, ◌&&◌, ◌||◌, not, nat_lt, Bool, if◌then◌else◌, List, [], ◌∷◌, ◌++◌, codes}

-- a date, with its month and day from 1
pub record CivilDate : Type 0 where
  pub year : ℕ
  pub month : ℕ
  pub day : ℕ

abbrev pub civil_date : ℕ → ℕ → ℕ → CivilDate
civil_date year month day = record { year = year; month = month; day = day }

-- every fourth year is a leap year, but of the centuries only every fourth
abbrev pub is_leap_year : ℕ → Bool
is_leap_year year = (year % 4 == 0) && (not (year % 100 == 0) || (year % 400 == 0))

-- the days of a month: thirty have April, June, September and November
abbrev pub days_in_month : ℕ → ℕ → ℕ
days_in_month year month =
    if month == 2 then (if is_leap_year year then 29 else 28)
    else (if (month == 4) || (month == 6) || (month == 9) || (month == 11) then 30 else 31)

-- the date of the next day
abbrev pub next_date : CivilDate → CivilDate
next_date date =
    if nat_lt date.day (days_in_month date.year date.month) then civil_date date.year date.month (date.day + 1)
    else (if nat_lt date.month 12 then civil_date date.year (date.month + 1) 1 else civil_date (date.year + 1) 1 1)

-- the date so many days after 1970-01-01
unfoldable pub date_of : ℕ → CivilDate
date_of zero = civil_date 1970 1 1
date_of (suc days) = next_date (date_of days)

-- a number below 100 in two digits, below 1000 in three, below 10000 in four
abbrev pub two_digits : ℕ → List ℕ
two_digits n = (48 + n / 10) ∷ (48 + n % 10) ∷ []

abbrev pub three_digits : ℕ → List ℕ
three_digits n = (48 + n / 100) ∷ two_digits (n % 100)

abbrev pub four_digits : ℕ → List ℕ
four_digits n = two_digits (n / 100) ++ two_digits (n % 100)

-- `2024-02-29`
abbrev pub date_text : CivilDate → List ℕ
date_text date = four_digits date.year ++ codes "-" ++ two_digits date.month ++ codes "-" ++ two_digits date.day

-- `23:59:59`, of so many seconds, by the part of a day that is left of them
abbrev pub time_text : ℕ → List ℕ
time_text seconds = two_digits (seconds / 3600 % 24) ++ codes ":" ++ two_digits (seconds / 60 % 60) ++ codes ":" ++ two_digits (seconds % 60)
