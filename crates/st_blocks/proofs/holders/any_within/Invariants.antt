use Rattle.std.proofs.Common.{◌≡◌, get_or, nat_eq, drop}
use Rattle.std.specs.List.{list_any}
use Rattle.st_blocks.proofs.holders.any_within.Given as goal

abbrev pub invariant-loop-w : goal.invariant-loop-w
invariant-loop-w l = list_any (λ w. nat_eq (get_or l.components w 0) l.own) (drop l.w-index l.row) ≡ list_any (λ w. nat_eq (get_or l.components w 0) l.own) l.row
