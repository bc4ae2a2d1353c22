use Rattle.std.proofs.Common.{◌≡◌, take}
use Rattle.std.specs.List.{sum_by}
use Rattle.plant_types.specs.Values.{row_length}
use Rattle.logic_source.specs.declared.logic.Row.{Row}
use Rattle.logic_source.proofs.logic.row_cells.Given as goal

-- the cells of the arrays so far
abbrev pub invariant-loop-row : goal.invariant-loop-row
invariant-loop-row l = l.total ≡ sum_by (λ (row : Row). row_length row.bounds) (take l.row-index l.rows)
