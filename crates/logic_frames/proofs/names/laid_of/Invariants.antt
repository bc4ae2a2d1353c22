use Rattle.std.proofs.Common.{◌≡◌, ◌+◌, ◌++◌, take, drop}
use Rattle.std.specs.List.{sum_by}
use Rattle.plant_types.specs.Values.{row_length}
use Rattle.logic_source.specs.declared.logic.Row.{Row}
use Rattle.logic_frames.specs.Scoped.{laid_from}
use Rattle.logic_frames.proofs.names.laid_of.Given as goal

-- the arrays so far, and those that follow, are all; the next one begins where those so far end
abbrev pub invariant-loop-row : goal.invariant-loop-row
invariant-loop-row l = record {
  all : l.laid.items ++ laid_from l.first (drop l.row-index l.rows) ≡ laid_from l.from l.rows;
  many : l.first ≡ l.from + sum_by (λ (row : Row). row_length row.bounds) (take l.row-index l.rows);
}
