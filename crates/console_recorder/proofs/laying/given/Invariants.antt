use Rattle.std.proofs.Common.{◌≡◌, take, map}
use Rattle.alarm_machine.specs.Alarms.{PlainAlarm}
use Rattle.alarm_bank.specs.Moves.{put_all}
use Rattle.console_recorder.proofs.laying.given.Given as goal

abbrev pub invariant-loop-number : goal.invariant-loop-number
invariant-loop-number l = record {
  conditions : l.conds.items ≡ map (λ (a : PlainAlarm). a.condition) (put_all l.alarms (take l.number-index l.moved));
  suppressions : l.sups.items ≡ map (λ (a : PlainAlarm). a.suppressed) (put_all l.alarms (take l.number-index l.moved));
}
