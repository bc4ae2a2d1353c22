use Rattle.std.proofs.Common.{◌≡◌, ◌∙◌, ap, sym, subst, List, Bool, Some, slice_get, arith}
use Rattle.std.proofs.lemmas.Option.{slice_get-get_or}
use Rattle.logic_carry.specs.Marks.{AreMarked}
use Rattle.logic_carry.proofs.Marking.{marked_more}
use Rattle.logic_carry.proofs.marks.mark_more.Goals as goal

pub loop-number-preserved : goal.loop-number-preserved
loop-number-preserved c =
    let shapes = c.args.shapes.now in
    let shape = c.index-shapes-number.result in
    let n = c.loop-number.number in
    let test = c.loop-number-test.true in
    let at : slice_get shapes n ≡ Some shape = slice_get-get_or shapes n shape (omega (arith, test)) ∙ ap Some (sym c.index-shapes-number.is) in
    subst (λ (marks : List Bool). AreMarked marks shapes) (sym c.mark_one.ensures) (marked_more c.loop-number.marks.items n shapes shape at c.loop-number.invariant)
