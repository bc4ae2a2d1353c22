use Rattle.alarm_watch.proofs.Ranged.{IsPushed}
use Rattle.alarm_watch.proofs.chains.push_chain.Given as goal

abbrev pub invariant-loop-link : goal.invariant-loop-link
invariant-loop-link l = IsPushed l.next l.from l.link l.fn.alarms.items l.alarms.items

abbrev pub decreases-loop-link : goal.decreases-loop-link
decreases-loop-link l = l.link
