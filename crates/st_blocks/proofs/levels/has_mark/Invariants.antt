use Rattle.std.proofs.Common.{◌≡◌, drop}
use Rattle.std.specs.List.{list_any}
use Rattle.st_blocks.proofs.levels.has_mark.Given as goal

abbrev pub invariant-loop-mark : goal.invariant-loop-mark
invariant-loop-mark l = list_any (λ mark. mark) (drop l.mark-index l.marks) ≡ list_any (λ mark. mark) l.marks
