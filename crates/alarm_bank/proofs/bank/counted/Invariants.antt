use Rattle.std.proofs.Common.{◌≡◌, ◌++◌, drop}
use Rattle.alarm_bank.specs.Banks.{counted}
use Rattle.alarm_bank.proofs.bank.counted.Given as goal

abbrev pub invariant-loop-at : goal.invariant-loop-at
invariant-loop-at l = l.rows.items ++ counted (drop l.at l.sites) (drop l.at l.alarms) ≡ counted l.sites l.alarms
