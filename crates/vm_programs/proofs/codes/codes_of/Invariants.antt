use Rattle.std.proofs.Common.{◌≡◌, ◌+◌, ◌≤◌, length, take, drop}
use Rattle.std.specs.Vec.Iter.{into_iter_items}
use Rattle.codegen.specs.Counts.{AreCounts}
use Rattle.vm_programs.specs.Folded.{AreFolded}
use Rattle.vm_programs.specs.Codes.{EachIsCode, EachIsMade}
use Rattle.vm_programs.proofs.codes.codes_of.Given as goal

-- the table has the first frames alone again, and the programs so far have their codes
abbrev pub invariant-loop-program : goal.invariant-loop-program
invariant-loop-program l = record {
  folded : AreFolded (take l.first l.fn.frames.items) l.folded.items;
  counted : AreCounts l.folded.items l.counts;
  left : drop (l.first + length l.codes.items) l.fn.frames.items ≡ into_iter_items l.program-iterator;
  within : l.first + length l.codes.items ≤ length l.fn.frames.items;
  each : EachIsCode l.fn.frames.items l.globals l.first l.values l.clocks l.costs l.codes.items;
  made : EachIsMade l.fn.frames.items l.globals l.first l.values l.clocks l.costs l.codes.items;
}
