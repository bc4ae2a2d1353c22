use Rattle.std.proofs.Common.{◌≡◌, take, map}
use Rattle.logic_source.specs.declared.logic.Row.{Row}
use Rattle.logic_frames.proofs.names.names_of_rows.Given as goal

-- the names so far
abbrev pub invariant-loop-row : goal.invariant-loop-row
invariant-loop-row l = l.names ≡ map (λ (x : Row). x.name) (take l.row-index l.rows)
