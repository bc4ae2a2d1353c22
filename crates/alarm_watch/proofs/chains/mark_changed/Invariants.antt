use Rattle.std.proofs.Common.{◌*◌, length}
use Rattle.logic_cells.specs.Cells.{value_at}
use Rattle.alarm_watch.proofs.Marked.{MarkedFrom}
use Rattle.alarm_watch.proofs.chains.mark_changed.Given as goal

abbrev pub invariant-loop-block : goal.invariant-loop-block
invariant-loop-block l = record {
  conditions : MarkedFrom (length l.fn.marks) l.conditions.starts.items l.conditions.alarms.items (value_at l.before) (value_at l.now) 0 (l.block * 8) l.fn.marks l.marks;
  suppressions : MarkedFrom (length l.fn.marks) l.suppressions.starts.items l.suppressions.alarms.items (value_at l.before) (value_at l.now) 0 (l.block * 8) l.fn.marks l.marks;
}
