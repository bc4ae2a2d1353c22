use Rattle.std.proofs.Common.{◌≡◌, ◌+◌, min, take, length}
use Rattle.std.specs.List.{sum_by}
use Rattle.logic_source.specs.declared.logic.Instance.{Instance}
use Rattle.logic_source.specs.Source.{row_cells}
use Rattle.logic_limits.specs.Counts.{instance_slots}
use Rattle.logic_limits.specs.Measures.{slots_at}
use Rattle.logic_limits.proofs.counting.count_slots.Given as goal

abbrev pub invariant-loop-instance : goal.invariant-loop-instance
invariant-loop-instance l = l.total ≡ min (length l.routine.locals.items + row_cells l.routine.rows.items + sum_by (λ (i : Instance). instance_slots (slots_at l.table) i.of) (take l.instance-index l.routine.instances.items)) 65537
