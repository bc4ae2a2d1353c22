use Rattle.std.proofs.Common.{◌≡◌, ◌+◌, take, length}
use Rattle.std.specs.List.{sum_by}
use Rattle.logic_source.specs.declared.logic.Instance.{Instance}
use Rattle.logic_source.specs.Source.{row_cells}
use Rattle.vm_logic.specs.Bases.{stopped, instance_count, numbers_in}
use Rattle.vm_logic.proofs.values.value_count.Given as goal

abbrev pub invariant-loop-instance : goal.invariant-loop-instance
invariant-loop-instance l = l.total ≡ stopped (length l.routine.locals.items + row_cells l.routine.rows.items + sum_by (λ (i : Instance). instance_count (numbers_in l.counts) i.of) (take l.instance-index l.routine.instances.items))
