use Rattle.logic_carry.specs.Marks.{AreMarked}
use Rattle.logic_carry.proofs.marks.mark_more.Given as goal

abbrev pub invariant-loop-number : goal.invariant-loop-number
invariant-loop-number l = AreMarked l.marks.items l.shapes
