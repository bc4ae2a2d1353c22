use Rattle.vm_slices.proofs.Putting.{PutUpTo}
use Rattle.vm_slices.proofs.puts.put_clocks.Given as goal

abbrev pub invariant-loop-i : goal.invariant-loop-i
invariant-loop-i l = PutUpTo l.numbers l.items l.fn.row l.i l.row
