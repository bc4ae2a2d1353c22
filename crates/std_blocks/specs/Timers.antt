-- TON and TOF, as functions of the list of all calls: Q, and ET in milliseconds (IEC 61131-3; TOF before any call with IN TRUE is this profile's).
use Rattle.std.specs.Prelude.{ℤ, pos, min, nat_lt, Bool, true, false, not, List, [], ◌∷◌, if◌then◌else◌}
use Rattle.std_blocks.specs.Calls.{Call, preset, run_on, run_off, was_on, elapsed}

-- ET is the lesser of the time that has passed since the run began and PT, and Q is TRUE exactly when that time is at least PT; without a run they are FALSE and 0
abbrev pub after_run_on : List Call → Bool × ℤ
after_run_on [] = (false, pos 0)
after_run_on (c ∷ calls) = (not (nat_lt (elapsed c calls) (preset c.pt)), pos (min (elapsed c calls) (preset c.pt)))

-- TON: the run is that of the calls with IN TRUE
abbrev pub ton : List Call → Bool × ℤ
ton calls = after_run_on (run_on calls)

-- ET is the lesser of the time that has passed since the run began and PT, and Q is TRUE exactly when that time is below PT; without a run they are TRUE and 0
abbrev pub after_run_off : List Call → Bool × ℤ
after_run_off [] = (true, pos 0)
after_run_off (c ∷ calls) = (nat_lt (elapsed c calls) (preset c.pt), pos (min (elapsed c calls) (preset c.pt)))

-- TOF: the run is that of the calls after the last one with IN TRUE; if no call ever had IN TRUE, Q is FALSE and ET 0
abbrev pub tof : List Call → Bool × ℤ
tof calls = if was_on calls then after_run_off (run_off calls) else (false, pos 0)
