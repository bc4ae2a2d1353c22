use Rattle.std.proofs.Common.{◌≡◌, take, map}
use Rattle.alarm_machine.specs.Alarms.{PlainAlarm}
use Rattle.console_recorder.proofs.laying.flags_of.Given as goal

abbrev pub invariant-loop-alarm : goal.invariant-loop-alarm
invariant-loop-alarm l = record {
  conditions : l.conds.items ≡ map (λ (a : PlainAlarm). a.condition) (take l.alarm-index l.alarms);
  suppressions : l.sups.items ≡ map (λ (a : PlainAlarm). a.suppressed) (take l.alarm-index l.alarms);
}
