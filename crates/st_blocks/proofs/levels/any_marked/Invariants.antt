use Rattle.std.proofs.Common.{◌≡◌, get_or, false, drop}
use Rattle.std.specs.List.{list_any}
use Rattle.st_blocks.proofs.levels.any_marked.Given as goal

abbrev pub invariant-loop-w : goal.invariant-loop-w
invariant-loop-w l = list_any (λ w. get_or l.marks w false) (drop l.w-index l.row) ≡ list_any (λ w. get_or l.marks w false) l.row
