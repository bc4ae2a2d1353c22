-- The civil time of a number of seconds, in the words of the calendar library, and its text.
use Rattle.std.proofs.Common.{◌≡◌, ◌∙◌, ap, sym, refl, ℕ, ◌+◌, ◌*◌, ◌/◌, ◌%◌, ◌<◌, ◌≤◌, pos, ◌+ℤ◌, ◌*ℤ◌, List, ◌++◌, codes, Some, None, false, arith}
use Rattle.jiff.specs.Types.{Date, Time, DateTime, Timestamp}
use Rattle.jiff.specs.Words.{civil_nanos, datetime_text, epoch_day, time_nanos, parse_timestamp}
use Rattle.jiff.proofs.Family.{civil_nanos-parts, parse_timestamp-text, same_datetime}
use Rattle.jiff_core.proofs.SignedLemmas.{signed_arith}
use Rattle.jiff_fmt.specs.Text.{places}
use Rattle.base_stamps.specs.Civil.{date_of, three_digits}
use Rattle.base_stamps.specs.Instants.{IsInstantText}
use Rattle.base_stamps.specs.Stamps.{epoch_bound, civil_text, epoch_text, stamp}
use Rattle.base_stamps.proofs.Dates.{day_of, year_within}

-- the date so many days after 1970-01-01
abbrev date : (days : ℕ) → days < 2_000_000 → Date
date days few =
    let day = day_of days in
    let year = year_within days (date_of days) few day in
    record {
      year = pos (date_of days).year;
      month = (date_of days).month;
      day = (date_of days).day;
      year_in = (omega (arith, signed_arith), omega (arith, signed_arith, year));
      month_in = day.month_in;
      day_in = day.day_in;
    }

date_is : (days : ℕ) (few : days < 2_000_000) → epoch_day (date days few) ≡ pos days
date_is days few = (day_of days).is

-- the time of day after so many seconds, and a part of a second
abbrev time : (seconds part : ℕ) → part < 1_000_000_000 → Time
time seconds part small =
    record {
      hour = seconds / 3600 % 24;
      minute = seconds / 60 % 60;
      second = seconds % 60;
      subsec_nanosecond = part;
      hour_in = omega arith;
      minute_in = omega arith;
      second_in = omega arith;
      subsec_in = small;
    }

time_is : (seconds part : ℕ) (small : part < 1_000_000_000) → time_nanos (time seconds part small) ≡ seconds % 86400 * 1_000_000_000 + part
time_is seconds part small = omega arith

-- the civil time after so many seconds, and a part of a second
abbrev civil : (seconds part : ℕ) → seconds < 100_000_000_000 → part < 1_000_000_000 → DateTime
civil seconds part few small =
    let days : seconds / 86400 < 2_000_000 = omega (arith, few) in
    record { date = date (seconds / 86400) days; time = time seconds part small }

civil_is : (seconds part : ℕ) (few : seconds < 100_000_000_000) (small : part < 1_000_000_000) → civil_nanos (civil seconds part few small) ≡ pos (seconds * 1_000_000_000 + part)
civil_is seconds part few small =
    let days : seconds / 86400 < 2_000_000 = omega (arith, few) in
    let day = date_is (seconds / 86400) days in
    let clock = time_is seconds part small in
    civil_nanos-parts (civil seconds part few small) ∙ ap (λ z. z *ℤ pos 86_400_000_000_000 +ℤ pos (time_nanos (time seconds part small))) day
    ∙ ap (λ n. pos (seconds / 86400) *ℤ pos 86_400_000_000_000 +ℤ pos n) clock ∙ omega (arith, signed_arith)

whole_text : (seconds : ℕ) (few : seconds < 100_000_000_000) (small : 0 < 1_000_000_000) → datetime_text false 84 None (civil seconds 0 few small) ≡ civil_text seconds
whole_text seconds few small = refl

-- the text of an instant in whole seconds is that of the epoch
pub epoch_shown : (text : List ℕ) (seconds : ℕ) (t : Timestamp) → seconds < epoch_bound → t.nanosecond ≡ pos (seconds * 1_000_000_000) → IsInstantText text t → text ≡ epoch_text seconds
epoch_shown text seconds t within is h =
    let few : seconds < 100_000_000_000 = omega (arith, within) in
    let small : 0 < 1_000_000_000 = omega arith in
    let known : civil_nanos (civil seconds 0 few small) ≡ pos (seconds * 1_000_000_000) = civil_is seconds 0 few small ∙ ap pos (omega arith) in
    let same : h.0 ≡ civil seconds 0 few small = same_datetime h.0 (civil seconds 0 few small) (h.1 ∙ is ∙ sym known) in
    h.2 ∙ ap (λ dt. datetime_text false 84 None dt ++ codes "Z") same ∙ ap (λ ts. ts ++ codes "Z") (whole_text seconds few small)

-- and an epoch's text is that of an instant
pub epoch_instant : (text : List ℕ) (seconds : ℕ) → seconds < epoch_bound → text ≡ epoch_text seconds → (t : Timestamp) × (t.nanosecond ≡ pos (seconds * 1_000_000_000)) × IsInstantText text t
epoch_instant text seconds within h =
    let few : seconds < 100_000_000_000 = omega (arith, within) in
    let small : 0 < 1_000_000_000 = omega arith in
    let known : civil_nanos (civil seconds 0 few small) ≡ pos (seconds * 1_000_000_000) = civil_is seconds 0 few small ∙ ap pos (omega arith) in
    let t : Timestamp = record { nanosecond = pos (seconds * 1_000_000_000); in_range = omega (arith, signed_arith, within) } in
    (t, refl, (civil seconds 0 few small, known, h ∙ sym (ap (λ ts. ts ++ codes "Z") (whole_text seconds few small))))

-- a text is of one instant alone
pub same_instant : (text : List ℕ) (t u : Timestamp) → IsInstantText text t → IsInstantText text u → t.nanosecond ≡ u.nanosecond
same_instant text t u h g =
    let read = sym (parse_timestamp-text h.0 t h.1) ∙ ap parse_timestamp (sym h.2 ∙ g.2) ∙ parse_timestamp-text g.0 u g.1 in
    cc read

part_text : (seconds part : ℕ) (few : seconds < 100_000_000_000) (small : part * 1_000_000 < 1_000_000_000) → part < 1000 → datetime_text false 84 (Some 3) (civil seconds (part * 1_000_000) few small) ≡ civil_text seconds ++ codes "." ++ three_digits part
unfolding places
part_text seconds part few small below =
    let hundreds : part * 1_000_000 / 100_000_000 ≡ part / 100 = omega arith in
    let tens : part * 1_000_000 % 100_000_000 / 10_000_000 ≡ part % 100 / 10 = omega arith in
    let ones : part * 1_000_000 % 100_000_000 % 10_000_000 / 1_000_000 ≡ part % 100 % 10 = omega arith in
    rw (← hundreds, ← tens, ← ones) refl

-- the text of a moment's instant is its stamp
pub stamp_shown : (text : List ℕ) (epoch moment : ℕ) (dt : DateTime) → epoch < epoch_bound → moment ≤ 4_000_000_000_000 → civil_nanos dt ≡ pos ((epoch * 1000 + moment) * 1_000_000) → text ≡ datetime_text false 84 (Some 3) dt ++ codes "Z" → text ≡ stamp epoch moment
stamp_shown text epoch moment dt within limit is h =
    let seconds = epoch + moment / 1000 in
    let part = moment % 1000 in
    let few : seconds < 100_000_000_000 = omega (arith, within, limit) in
    let below : part < 1000 = omega arith in
    let small : part * 1_000_000 < 1_000_000_000 = omega (arith, below) in
    let known : civil_nanos (civil seconds (part * 1_000_000) few small) ≡ pos ((epoch * 1000 + moment) * 1_000_000) = civil_is seconds (part * 1_000_000) few small ∙ ap pos (omega arith) in
    let same : dt ≡ civil seconds (part * 1_000_000) few small = same_datetime dt (civil seconds (part * 1_000_000) few small) (is ∙ sym known) in
    h ∙ ap (λ x. datetime_text false 84 (Some 3) x ++ codes "Z") same ∙ ap (λ ts. ts ++ codes "Z") (part_text seconds part few small below)
