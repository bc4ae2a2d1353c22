use Rattle.std.proofs.Common.{◌≡◌, get_or, false, map, take}
use Rattle.std.specs.List.{list_any}
use Rattle.st_blocks.proofs.levels.longer.Given as goal

abbrev pub invariant-loop-row : goal.invariant-loop-row
invariant-loop-row l = l.more.items ≡ map (λ row. list_any (λ w. get_or l.chains w false) row.items) (take l.row-index l.graph)
