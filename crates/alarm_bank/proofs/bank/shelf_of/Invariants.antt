use Rattle.std.proofs.Common.{◌≡◌, ◌<◌, ℕ, length, map, take, slice_index_or}
use Rattle.alarm_machine.specs.Alarms.{PlainAlarm, end_of, EndsInRange}
use Rattle.alarm_bank.specs.Banks.{end_or_never, IsSettled}
use Rattle.alarm_bank.proofs.bank.shelf_of.Given as goal

abbrev pub invariant-loop-at : goal.invariant-loop-at
invariant-loop-at l = record {
  ends : take l.at l.shelf ≡ take l.at (map (λ (a : PlainAlarm). end_or_never (end_of a.state)) l.alarms);
  count : length l.shelf ≡ length l.alarms;
  in_time : (k : ℕ) (d : PlainAlarm) → k < l.at → EndsInRange (slice_index_or l.alarms k d).state;
  settled : (k : ℕ) (d : PlainAlarm) → k < l.at → IsSettled (slice_index_or l.alarms k d);
}
