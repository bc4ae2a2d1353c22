use Rattle.alarm_watch.proofs.Ranged.{IsRanged}
use Rattle.alarm_watch.proofs.chains.ranges_of.Given as goal

abbrev pub invariant-loop-at : goal.invariant-loop-at
invariant-loop-at l = IsRanged l.chains.first.items l.chains.next.items l.at l.starts.items l.alarms.items
