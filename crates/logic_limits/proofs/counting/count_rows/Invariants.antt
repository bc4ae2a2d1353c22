use Rattle.std.proofs.Common.{◌≡◌, min, take}
use Rattle.std.specs.List.{sum_by}
use Rattle.plant_types.specs.Values.{row_length}
use Rattle.logic_source.specs.declared.logic.Row.{Row}
use Rattle.logic_limits.proofs.counting.count_rows.Given as goal

abbrev pub invariant-loop-row : goal.invariant-loop-row
invariant-loop-row l = l.total ≡ min (sum_by (λ (row : Row). row_length row.bounds) (take l.row-index l.rows)) 65537
