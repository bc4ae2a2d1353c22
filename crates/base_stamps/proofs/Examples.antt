-- Worked examples, each worked out by hand from the calendar.
use Rattle.std.proofs.Common.{◌≡◌, ◌+◌, ◌*◌, codes, refl}
use Rattle.base_stamps.specs.Civil.{civil_date, date_of}
use Rattle.base_stamps.specs.Stamps.{epoch_text, stamp}

-- 1970 has 365 days, 1971 too, January 31, and 29 February 1972 is the 29th day after them
pub leap_day : date_of 789 ≡ civil_date 1972 2 29
unfolding date_of
leap_day = refl

pub day_after : date_of 790 ≡ civil_date 1972 3 1
unfolding date_of
day_after = refl

pub last_second : epoch_text (789 * 86400 + 86399) ≡ codes "1972-02-29T23:59:59Z"
unfolding date_of
last_second = refl

-- a second after that
pub second_after : stamp (789 * 86400 + 86399) 1000 ≡ codes "1972-03-01T00:00:00.000Z"
unfolding date_of
second_after = refl

-- 1 hour, 2 minutes, 5 seconds and 6 milliseconds after the first moment of all
pub some_moment : stamp 0 3725006 ≡ codes "1970-01-01T01:02:05.006Z"
unfolding date_of
some_moment = refl
