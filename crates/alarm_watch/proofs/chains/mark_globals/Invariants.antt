use Rattle.std.proofs.Common.{length}
use Rattle.logic_cells.specs.Cells.{value_at}
use Rattle.alarm_watch.proofs.Marked.{MarkedFrom}
use Rattle.alarm_watch.proofs.chains.mark_globals.Given as goal

abbrev pub invariant-loop-at : goal.invariant-loop-at
invariant-loop-at l = MarkedFrom (length l.fn.marks) l.ranges.starts.items l.ranges.alarms.items (value_at l.before) (value_at l.now) l.from l.at l.fn.marks l.marks
