use Rattle.std.proofs.Common.{◌≡◌, ◌∙◌, ap, sym}
use Rattle.logic_cells.specs.Cells.{PlainCells}
use Rattle.vm_carry.proofs.carrying.carry.Goals as goal

pub returns : goal.returns
returns c = λ w stands.
    let old = c.args.old.now in
    let new = c.args.new.now in
    let pair = c.in_ok-both.ensures in
    let here = c.in_ok-here.ensures in
    let values = c.in_ok-values.ensures old new w pair (c.as_slice.ensures ∙ stands.values_are) (c.as_slice-2.ensures ∙ here.values_are) in
    let clocks = c.in_ok-clocks.ensures old new w pair (c.clocks.ensures ∙ stands.clocks_are) (c.clocks-2.ensures ∙ here.clocks_are) in
    record {
      values_are = ap (λ (cells : PlainCells). cells.values) c.new.ensures ∙ values;
      clocks_are = ap (λ (cells : PlainCells). cells.clocks) c.new.ensures ∙ clocks;
    }
