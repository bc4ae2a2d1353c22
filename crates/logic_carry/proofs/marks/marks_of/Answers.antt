use Rattle.std.proofs.Common.{sym, subst, List, Bool}
use Rattle.logic_carry.specs.Marks.{AreMarked}
use Rattle.logic_carry.proofs.Marking.{none_marked}
use Rattle.logic_carry.proofs.marks.marks_of.Goals as goal

pub loop-level-init : goal.loop-level-init
loop-level-init c = subst (λ (marks : List Bool). AreMarked marks c.args.shapes.now) (sym c.in_ok-marks.ensures) (none_marked _ c.args.shapes.now)
