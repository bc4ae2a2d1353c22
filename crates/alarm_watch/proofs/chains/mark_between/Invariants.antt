use Rattle.alarm_watch.proofs.Marked.{MarkedBetween}
use Rattle.alarm_watch.proofs.chains.mark_between.Given as goal

abbrev pub invariant-loop-place : goal.invariant-loop-place
invariant-loop-place l = MarkedBetween l.alarms l.start l.place l.fn.marks l.marks
