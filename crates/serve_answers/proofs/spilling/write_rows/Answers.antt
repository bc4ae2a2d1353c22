use Rattle.std.proofs.Common.{◌∙◌}
use Rattle.std.proofs.Math.Bool.{or-false}
use Rattle.std.proofs.lemmas.Result.{err_from_is_err_and}
use Rattle.serve_answers.proofs.PassingLaws.{all_begun, just_begun, row_begun, row_passed}
use Rattle.serve_answers.proofs.spilling.write_rows.Goals as goal

pub returns-in_err-push_numbered-clause-err : goal.returns-in_err-push_numbered-clause-err
returns-in_err-push_numbered-clause-err g c =
    let p = err_from_is_err_and c.from_residual.result c.from_residual.ensures.1 in
    rw p.1 (all_begun c.args.engine.now.plant c.args.engine.now.history c.loop-row.row c.args.text.now.items _ _ (just_begun _ _ _ _ c.loop-row.invariant.0))

pub returns-in_err-spill-clause-err : goal.returns-in_err-spill-clause-err
returns-in_err-spill-clause-err g c =
    let p = err_from_is_err_and c.from_residual-in_err-spill.result c.from_residual-in_err-spill.ensures.1 in
    rw p.1 (row_begun c.args.engine.now.plant c.args.engine.now.history c.loop-row.row c.args.text.now.items _ _ _ _ _ c.loop-row.invariant.0 c.in_ok-push_numbered.ensures c.in_err-spill.ensures.err)

pub loop-row-preserved : goal.loop-row-preserved
loop-row-preserved g c = (
  row_passed c.args.engine.now.plant c.args.engine.now.history c.loop-row.row c.args.text.now.items _ _ _ _ _ _ c.loop-row.invariant.0 c.in_ok-push_numbered.ensures c.in_ok-spill.ensures.ok,
  c.in_ok-spill.ensures.write ∙ or-false _ ∙ c.loop-row.invariant.1,
  λ h. c.in_ok-spill.ensures.held,
)
