use Rattle.std.proofs.Common.{◌≡◌, length, drop}
use Rattle.st_blocks.specs.Search.{seen_all}
use Rattle.st_blocks.proofs.search.visit.Given as goal

abbrev pub invariant-loop-w : goal.invariant-loop-w
invariant-loop-w l = (seen_all (drop l.w-index l.row) (l.marks.items, l.found.items) ≡ seen_all l.row (l.initial.marks.items, l.initial.found.items)) × (length l.marks.items ≡ length l.initial.marks.items)
