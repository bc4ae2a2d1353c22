use Rattle.logic_carry.specs.Marks.{AreMarked}
use Rattle.logic_carry.proofs.marks.marks_of.Given as goal

abbrev pub invariant-loop-level : goal.invariant-loop-level
invariant-loop-level l = AreMarked l.marks.items l.shapes
