-- The date so many days after 1970-01-01 has that day number.
use Rattle.std.proofs.Common.{◌≡◌, ◌∙◌, ap, sym, ℕ, zero, suc, ◌+◌, ◌<◌, ◌≤◌, pos, inl, inr, arith}
use Rattle.std.proofs.lemmas.Bool.{cases_Bool}
use Rattle.std.proofs.lemmas.Bool.Decides.{nat_tests}
use Rattle.std.specs.Int.{IsInRange}
use Rattle.std.specs.Prelude.{nat_lt}
use Rattle.jiff_core.specs.Calendar.{IsCivilDate, days_from_civil, days_in_month as month_days}
use Rattle.jiff_core.proofs.CalendarLemmas.{days_from_civil-day_count, day_count-lt_year, day_count-epoch, days_in_month_bounds}
use Rattle.jiff_core.proofs.DateLemmas.{days_from_civil-day, days_from_civil-max, days_from_civil-next_month, days_from_civil-next_year}
use Rattle.jiff_core.proofs.SignedLemmas.{signed_arith}
use Rattle.base_stamps.specs.Civil.{CivilDate, civil_date, days_in_month, next_date, date_of}

-- the calendar has the date, and its day number is n
pub record IsDay (n : ℕ) (date : CivilDate) : Type 0 where
  pub month_in : IsInRange 1 12 date.month
  pub day_in : IsInRange 1 (month_days (pos date.year) date.month) date.day
  pub is : days_from_civil (pos date.year) date.month date.day ≡ pos n

first_day : IsDay 0 (civil_date 1970 1 1)
first_day =
    let long = days_in_month_bounds (pos 1970) 1 in
    record { month_in = (omega arith, omega arith); day_in = (omega arith, omega (arith, long)); is = omega (arith, signed_arith, days_from_civil-day_count (pos 1970) 1 1, day_count-epoch) }

next_day : (n y m d : ℕ) → IsDay n (civil_date y m d) → IsDay (suc n) (next_date (civil_date y m d))
next_day n y m d h =
    let upper : d ≤ days_in_month y m = h.day_in.1 in
    elim (cases_Bool (nat_lt d (days_in_month y m))) [
      | inl inside ↦
          let below : d < days_in_month y m = grind (arith, nat_tests, inside) in
          let within : d + 1 ≤ month_days (pos y) m = omega (arith, below) in
          let step = days_from_civil-day (pos y) m d (d + 1) h.day_in.0 (omega arith) in
          let here : IsDay (suc n) (civil_date y m (d + 1)) = record { month_in = h.month_in; day_in = (omega arith, within); is = omega (arith, signed_arith, step, h.is) } in
          rw inside here
      | inr outside ↦
          let last : d ≡ days_in_month y m = grind (arith, nat_tests, outside, upper) in
          elim (cases_Bool (nat_lt m 12)) [
            | inl inside ↦
                let below : m < 12 = grind (arith, nat_tests, inside) in
                let step = days_from_civil-next_month (pos y) m d h.month_in.0 last in
                let long = days_in_month_bounds (pos y) (m + 1) in
                let here : IsDay (suc n) (civil_date y (m + 1) 1) = record { month_in = (omega arith, omega (arith, below)); day_in = (omega arith, omega (arith, long)); is = omega (arith, signed_arith, step, h.is) } in
                rw (outside, inside) here
            | inr last_month ↦
                let twelve : m ≡ 12 = grind (arith, nat_tests, last_month, h.month_in.0, h.month_in.1) in
                let thirty_one : d ≡ 31 = last ∙ ap (days_in_month y) twelve in
                let step = days_from_civil-next_year (pos y) (pos (y + 1)) (omega (arith, signed_arith)) (omega (arith, signed_arith)) in
                let known : days_from_civil (pos y) 12 31 ≡ pos n = ap (λ k. days_from_civil (pos y) k 31) (sym twelve) ∙ ap (days_from_civil (pos y) m) (sym thirty_one) ∙ h.is in
                let long = days_in_month_bounds (pos (y + 1)) 1 in
                let here : IsDay (suc n) (civil_date (y + 1) 1 1) = record { month_in = (omega arith, omega arith); day_in = (omega arith, omega (arith, long)); is = omega (arith, signed_arith, step, known) } in
                rw (outside, last_month) here
          ]
    ]

pub day_of : (n : ℕ) → IsDay n (date_of n)
unfolding date_of
day_of zero = first_day
day_of (suc n) = next_day n (date_of n).year (date_of n).month (date_of n).day (day_of n)

-- its year has four digits for so many days
pub year_within : (n : ℕ) (date : CivilDate) → n < 2_000_000 → IsDay n date → date.year ≤ 9999
year_within n date few h =
    elim (cases_Bool (nat_lt 9999 date.year)) [
      | inl after ↦
          let later : 9999 < date.year = grind (arith, nat_tests, after) in
          let last : IsCivilDate (pos 9999) 12 31 = ((omega (arith, signed_arith), omega (arith, signed_arith)), (omega arith, omega arith), (omega arith, omega arith)) in
          let counts = day_count-lt_year (pos 9999) 12 31 (pos date.year) date.month date.day last h.day_in.0 (omega (arith, signed_arith, later)) in
          absurd (omega (arith, signed_arith, few, counts, h.is, days_from_civil-max, days_from_civil-day_count (pos 9999) 12 31, days_from_civil-day_count (pos date.year) date.month date.day))
      | inr not_after ↦ grind (arith, nat_tests, not_after)
    ]
