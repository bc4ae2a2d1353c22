use Rattle.std.proofs.Common.{◌≡◌, ◌≤◌, take, count_by}
use Rattle.try_desks.specs.Shifts.{is_counted}
use Rattle.try_desks.proofs.counts.count.Given as goal

abbrev pub invariant-loop-before : goal.invariant-loop-before
invariant-loop-before l = (l.counted ≡ count_by (λ row. is_counted l.fn.orders row.entry) (take l.before l.log.rows)) × (l.counted ≤ l.before)
