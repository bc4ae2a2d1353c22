-- A step by what alarms watch is the step by their rows.
use Rattle.std.proofs.Common.{◌≡◌, ℕ, ℤ, List, [], ◌∷◌, length, map, replicate, Option, None, arith, ap, sym, refl, ◌∙◌}
use Rattle.std.specs.Prelude.{IfOk, Result, Ok, Err}
use Rattle.std.proofs.lemmas.List.{length-map}
use Rattle.plant_types.specs.Values.{is_true}
use Rattle.alarm_machine.specs.Alarms.{PlainAlarm}
use Rattle.alarm_bank.specs.Banks.{scan_each}
use Rattle.std_blocks.specs.Calls.{Call}
use Rattle.alarm_delays.specs.Delays.{PlainDelays, after_conditions, delayed_each, since_of}
use Rattle.alarm_delays.proofs.DelayLaws.{counts_scans, since_scans}
use Rattle.engine_history.specs.AlarmRow.{AlarmRow}
use Rattle.alarm_watch.specs.declared.watched.Watch.{Watch}
use Rattle.alarm_watch.specs.Watched.{suppression, watched_conditions, watched_suppressions, alarms_watched}
use Rattle.engine_system.specs.System.{conditions, delays_of, no_scans, suppressions, alarms_after, scans_after}
use Rattle.engine_system.specs.Watches.{watch_of, watches_of}

pub conditions_watched : (now : ℕ → ℤ) (rows : List AlarmRow) → watched_conditions now (watches_of rows) ≡ conditions now rows
conditions_watched now [] = refl
conditions_watched now (row ∷ rows) = ap (λ l. is_true (now row.condition) ∷ l) (conditions_watched now rows)

suppressions_watched : (now : ℕ → ℤ) (rows : List AlarmRow) → watched_suppressions now (watches_of rows) ≡ suppressions now rows
suppressions_watched now [] = refl
suppressions_watched now (row ∷ rows) = ap (λ l. suppression now row.suppress ∷ l) (suppressions_watched now rows)

-- the delays of alarms with these rows, after these scans
abbrev pub delays_by : List AlarmRow → List (List Call) → ℕ → PlainDelays
delays_by rows scans last = record { delays = delays_of rows; since = map since_of scans; last = last }

pub step_watched : (now : ℕ → ℤ) (t last : ℕ) (rows : List AlarmRow) (scans : List (List Call)) (alarms : List PlainAlarm)
    → alarms_watched now t (watches_of rows) (delays_by rows scans last) alarms ≡ alarms_after now t rows (scans_after now t rows scans) alarms
step_watched now t last rows scans alarms =
    ap (λ cs. scan_each (delayed_each cs t (delays_of rows) (map since_of scans)) (watched_suppressions now (watches_of rows)) t alarms) (conditions_watched now rows)
    ∙ ap (λ ss. scan_each (delayed_each (conditions now rows) t (delays_of rows) (map since_of scans)) ss t alarms) (suppressions_watched now rows)
    ∙ ap (λ cs. scan_each cs (suppressions now rows) t alarms) (sym (counts_scans (conditions now rows) t (delays_of rows) scans))

-- what is kept of the scans after one more
pub kept_watched : (now : ℕ → ℤ) (t last : ℕ) (rows : List AlarmRow) (scans : List (List Call)) → length scans ≡ length rows
    → after_conditions (watched_conditions now (watches_of rows)) t (delays_by rows scans last) ≡ delays_by rows (scans_after now t rows scans) t
kept_watched now t last rows scans each =
    let many = length-map rows (λ (row : AlarmRow). is_true (now row.condition)) in
    let delays = length-map rows (λ (row : AlarmRow). row.on_delay_ms) in
    ap (λ cs. after_conditions cs t (delays_by rows scans last)) (conditions_watched now rows)
    ∙ (λ i. record { delays = delays_of rows; since = sym (since_scans (conditions now rows) t (delays_of rows) scans (omega (arith, many, delays)) (omega (arith, each, delays))) i; last = t })

-- as many alarms as what they watch
pub each_watched : (rows : List AlarmRow) (watches : List Watch) (alarms : List PlainAlarm) → watches ≡ watches_of rows → length alarms ≡ length rows → length alarms ≡ length watches
each_watched rows watches alarms are each = let many = length-map rows watch_of in let same = ap length are in omega (arith, many, same, each)

-- before the first scan no condition has been met
pub none_since : (rows : List AlarmRow) → replicate (length (delays_of rows)) None ≡ map since_of (map no_scans rows)
none_since [] = refl
none_since (row ∷ rows) = ap (λ (l : List (Option ℕ)). None ∷ l) (none_since rows)

pub delays_many : (rows : List AlarmRow) → length (delays_of rows) ≡ length rows
delays_many rows = length-map rows (λ (row : AlarmRow). row.on_delay_ms)

pub watches_many : (rows : List AlarmRow) (watches : List Watch) → watches ≡ watches_of rows → length watches ≡ length rows
watches_many rows watches are = ap length are ∙ length-map rows watch_of

-- before the first scan
pub opening_kept : (rows : List AlarmRow) (items : List ℕ) (made : PlainDelays) → items ≡ delays_of rows → made ≡ record { delays = items; since = replicate (length items) None; last = 0 } → made ≡ delays_by rows (map no_scans rows) 0
opening_kept rows items made are is =
    is ∙ (λ i. record { delays = are i; since = replicate (length (are i)) None; last = 0 }) ∙ (λ i. record { delays = delays_of rows; since = none_since rows i; last = 0 })

pub if_ok : {T E : Type 0} (P Q : T → Type 0) (r : Result T E) → ((t : T) → P t → Q t) → IfOk r P → IfOk r Q
if_ok P Q (Ok t) on h = on t h
if_ok P Q (Err e) on h = tt
