use Rattle.std.proofs.Common.{◌≤◌, length, arith, inl, inr, ap}
use Rattle.alarm_counts.specs.Counts.{cell}
use Rattle.alarm_counts.proofs.Tallies.{no_priority, no_area}
use Rattle.alarm_counts.proofs.summary.Summary.count.Goals as goal
use Rattle.alarm_counts.proofs.summary.Summary.count.Goals.{then-priority-eq0-via-then-priority-eq0, then-priority-eq0-via-else-priority-eq0+then-priority-gt4}

pub returns-then-priority-eq0 : goal.returns-then-priority-eq0
returns-then-priority-eq0 c =
    rw (← c.self.view_is) (no_priority _ _ _ _ _ c.self.invariant.kept
    (elim c.then-priority-eq0.branch [ then-priority-eq0-via-then-priority-eq0 w ↦ inl (omega arith) | then-priority-eq0-via-else-priority-eq0+then-priority-gt4 w ↦ inr (omega arith) ]))

pub returns-in-None : goal.returns-in-None
returns-in-None c =
    let far : length c.self.inside.counts.items ≤ cell c.args.area c.args.priority c.args.code = omega (arith, c.in-None.ensures.lookup.3, c.cell.ensures, ap length c.deref.ensures.value) in
    rw (← c.self.view_is) (no_area _ _ _ _ _ c.self.invariant.kept (omega arith) (omega arith) far)
