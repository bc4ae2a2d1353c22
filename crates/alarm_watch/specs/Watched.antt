-- What each alarm watches, and the step of all alarms by that.
use Rattle.std.specs.Prelude.{◌≡◌, ℕ, ℤ, Bool, false, Option, Some, None, is_some, List, map}
use Rattle.plant_types.specs.Values.{is_true}
use Rattle.alarm_machine.specs.Alarms.{PlainAlarm}
use Rattle.alarm_bank.specs.Banks.{scan_each}
use Rattle.alarm_bank.specs.declared.moves.Moves.{Moves}
use Rattle.alarm_bank.specs.Moves.{AreMovesOf}
use Rattle.alarm_delays.specs.Delays.{PlainDelays, Follows, delayed_each}
use Rattle.alarm_watch.specs.declared.watched.Watch.{Watch}

-- whether an alarm is suppressed, by the globals' values; one without a suppressing global never is
abbrev pub suppression : (ℕ → ℤ) → Option ℕ → Bool
suppression now None = false
suppression now (Some n) = is_true (now n)

-- the conditions of alarms by what they watch
abbrev pub watched_conditions : (ℕ → ℤ) → List Watch → List Bool
watched_conditions now watches = map (λ watch. is_true (now watch.condition)) watches

-- their suppressions
abbrev pub watched_suppressions : (ℕ → ℤ) → List Watch → List Bool
watched_suppressions now watches = map (λ watch. suppression now watch.suppress) watches

-- each alarm takes its step by whether the condition that it watches counts, and by its suppression
abbrev pub alarms_watched : (ℕ → ℤ) → ℕ → List Watch → PlainDelays → List PlainAlarm → List PlainAlarm
alarms_watched now t watches d alarms = scan_each (delayed_each (watched_conditions now watches) t d.delays d.since) (watched_suppressions now watches) t alarms

-- what a scan lists of alarms that take their steps by what they watch: those that it moves, and the changes of their codes
abbrev pub AreWatchedMoves : (ℕ → ℤ) → ℕ → List Watch → PlainDelays → List PlainAlarm → Moves → Type 0
AreWatchedMoves now t watches d alarms moves = AreMovesOf alarms (alarms_watched now t watches d alarms) moves.moved.items moves.changes.items

-- the condition and the suppression of each alarm's last scan are those that its globals have now, and its last condition is the one that counted then
pub record Follow (now : ℕ → ℤ) (watches : List Watch) (d : PlainDelays) (alarms : List PlainAlarm) : Type 0 where
  pub conditions : map is_some d.since ≡ watched_conditions now watches
  pub suppressions : map (λ a. a.suppressed) alarms ≡ watched_suppressions now watches
  pub counted : Follows d alarms
