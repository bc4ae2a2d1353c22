use Rattle.std.proofs.Common.{◌≡◌, take}
use Rattle.std.specs.List.{sum_by}
use Rattle.plant_types.specs.Values.{row_length}
use Rattle.logic_source.specs.declared.logic.Row.{Row}
use Rattle.vm_logic.specs.Bases.{stopped}
use Rattle.vm_logic.proofs.values.row_count.Given as goal

abbrev pub invariant-loop-row : goal.invariant-loop-row
invariant-loop-row l = l.total ≡ stopped (sum_by (λ (row : Row). row_length row.bounds) (take l.row-index l.rows))
