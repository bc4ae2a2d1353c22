use Rattle.std.proofs.Common.{◌-◌, length}
use Rattle.st_blocks.specs.Graphs.{next_of}
use Rattle.st_blocks.proofs.Searching.{Searches}
use Rattle.st_blocks.proofs.search.leads.Given as goal

abbrev pub invariant-loop-i : goal.invariant-loop-i
invariant-loop-i l = Searches (next_of l.graph) l.from (length l.graph) l.i (l.marks.items, l.found.items)

abbrev pub decreases-loop-i : goal.decreases-loop-i
decreases-loop-i l = length l.graph - l.i
