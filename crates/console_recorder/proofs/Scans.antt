-- A scan's entry does to a board's alarms what the scan does to the system's.
use Rattle.std.proofs.Common.{◌≡◌, ℕ, ℤ, ◌==◌, ◌≤◌, Bool, true, ◌&&◌, if◌then◌else◌, nat_le, List, length, map, ap, sym, ◌∙◌, eq-eqb}
use Rattle.std.proofs.lemmas.List.{length-map}
use Rattle.std.proofs.lemmas.Bool.{le-leb}
use Rattle.plant_types.specs.declared.values.Value.{Value}
use Rattle.alarm_machine.specs.Alarms.{PlainAlarm}
use Rattle.alarm_machine.specs.declared.limits.TheConstants.{LAST_MOMENT}
use Rattle.alarm_bank.specs.declared.event.BankEvent.{BankEvent}
use Rattle.alarm_bank.specs.declared.event.BankEvent.TheVariants as bank_event
use Rattle.alarm_bank.specs.Banks.{PlainBank, scan_each, after_event}
use Rattle.alarm_bank.proofs.BankLaws.{conditions_scanned, suppressions_scanned}
use Rattle.alarm_watch.specs.Watched.{suppression}
use Rattle.engine.specs.AlarmRow.{AlarmRow}
use Rattle.engine.specs.Names.{globals_of}
use Rattle.engine.specs.Programs.{global_in}
use Rattle.engine.specs.System.{System, suppressions, scanned_by, scans_after, after_scan_event}
use Rattle.engine.proofs.Systems.{HasAlarms, length-scans_after}
use Rattle.alarm_delays.specs.Delays.{counts}
use Rattle.console_recorder.specs.Entries.{given_by, bank_of}

both : (a b : Bool) → a ≡ true → b ≡ true → (a && b) ≡ true
both a b h k = ap (λ (c : Bool). c && b) h ∙ k

-- a scan that has a condition and a suppression for each alarm, within the range
scan_taken : (cs ss : List Bool) (t : ℕ) (b : PlainBank) → length cs ≡ length b.alarms → length ss ≡ length b.alarms → t ≤ LAST_MOMENT
    → after_event (bank_event.Scan t cs ss) b ≡ record b { alarms = scan_each cs ss t b.alarms; moment = t }
scan_taken cs ss t b h k few =
    ap (λ (fits : Bool). if fits then record b { alarms = scan_each cs ss t b.alarms; moment = t } else b)
    (both (length cs == length b.alarms && length ss == length b.alarms) (nat_le t LAST_MOMENT) (both (length cs == length b.alarms) (length ss == length b.alarms) (eq-eqb (length cs) (length b.alarms) h) (eq-eqb (length ss) (length b.alarms) k)) (le-leb t LAST_MOMENT few))

-- a scan has a condition that counts, and a suppression, for each alarm
conditions_each : (now : ℕ → ℤ) (t : ℕ) (sys : System) → HasAlarms sys → length (map counts (scans_after now t sys.plant.alarms sys.scans)) ≡ length sys.alarms
conditions_each now t sys each =
    let scans = scans_after now t sys.plant.alarms sys.scans in
    length-map scans counts ∙ length-scans_after now t sys.plant.alarms sys.scans each.1 ∙ sym each.0

suppressions_each : (now : ℕ → ℤ) (sys : System) → HasAlarms sys → length (suppressions now sys.plant.alarms) ≡ length sys.alarms
suppressions_each now sys each = length-map sys.plant.alarms (λ (row : AlarmRow). suppression now row.suppress) ∙ sym each.0

pub scan_after : (sys : System) (image : List (ℕ × Value)) (t : ℕ) → HasAlarms sys → t ≤ LAST_MOMENT → after_event (given_by sys image t) (bank_of sys) ≡ bank_of (after_scan_event sys image t)
scan_after sys image t each few =
    let now = global_in (globals_of sys.plant) (scanned_by sys image t).world in
    let rows = sys.plant.alarms in
    scan_taken (map counts (scans_after now t rows sys.scans)) (suppressions now rows) t (bank_of sys) (conditions_each now t sys each) (suppressions_each now sys each) few

-- what a scan gives that leaves alarms: the condition and the suppression that each has then
abbrev pub given_to : ℕ → List PlainAlarm → BankEvent
given_to t alarms = bank_event.Scan t (map (λ (a : PlainAlarm). a.condition) alarms) (map (λ (a : PlainAlarm). a.suppressed) alarms)

-- each alarm has after a scan the condition and the suppression that the scan gives it
pub given_after : (sys : System) (image : List (ℕ × Value)) (t : ℕ) → HasAlarms sys → given_to t (after_scan_event sys image t).alarms ≡ given_by sys image t
given_after sys image t each =
    let now = global_in (globals_of sys.plant) (scanned_by sys image t).world in
    let cs = map counts (scans_after now t sys.plant.alarms sys.scans) in
    let ss = suppressions now sys.plant.alarms in
    let conditions = conditions_scanned cs ss t sys.alarms (conditions_each now t sys each) (suppressions_each now sys each) in
    let suppressed = suppressions_scanned cs ss t sys.alarms (conditions_each now t sys each) (suppressions_each now sys each) in
    λ i. bank_event.Scan t (conditions i) (suppressed i)
