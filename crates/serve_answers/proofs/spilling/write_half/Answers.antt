use Rattle.std.proofs.Common.{◌∙◌, refl, arith}
use Rattle.std.proofs.Math.Bool.{or-false}
use Rattle.std.proofs.lemmas.Result.{err_from_is_err_and}
use Rattle.engine.specs.Engines.{state_of}
use Rattle.serve_answers.specs.Listings.{half_lines_of, half_total}
use Rattle.serve_answers.proofs.PassingLaws.{just_begun, half_none, half_begun, half_passed, half_stopped}
use Rattle.serve_answers.proofs.spilling.write_half.Goals as goal

pub loop-number-init : goal.loop-number-init
loop-number-init g c = record { passed = half_none (half_lines_of (state_of c.args.engine.now) c.args.half) _ _; few = omega arith; held = λ h. h; sink = refl }

pub loop-number-preserved : goal.loop-number-preserved
loop-number-preserved g c = record {
  passed = half_passed (half_lines_of (state_of c.args.engine.now) c.args.half) c.loop-number.number _ _ _ _ _ _ _ _ c.loop-number.invariant.passed c.in_ok-lines.ensures.listed _ c.in_ok-spill.ensures.ok;
  few = omega (arith, c.loop-number.invariant.few, c.in_ok-lines.ensures.few);
  held = λ h. c.in_ok-spill.ensures.held;
  sink = c.in_ok-spill.ensures.write ∙ or-false _ ∙ c.loop-number.invariant.sink;
}

pub returns-in_err-lines-clause-err : goal.returns-in_err-lines-clause-err
returns-in_err-lines-clause-err g c =
    let p = err_from_is_err_and c.from_residual.result c.from_residual.ensures.1 in
    let total = rw c.plant.ensures at c.total-number-end.ensures in
    rw p.1 (half_begun (half_lines_of (state_of c.args.engine.now) c.args.half) c.loop-number.number (half_total (state_of c.args.engine.now).plant c.args.half) c.args.text.now.items _ _
    (omega (arith, c.loop-number-test.true, total)) (just_begun _ _ _ _ c.loop-number.invariant.passed.passed))

pub returns-in_err-spill-clause-err : goal.returns-in_err-spill-clause-err
returns-in_err-spill-clause-err g c =
    let p = err_from_is_err_and c.from_residual-in_err-spill.result c.from_residual-in_err-spill.ensures.1 in
    let total = rw c.plant.ensures at c.total-number-end.ensures in
    rw p.1 (half_stopped (half_lines_of (state_of c.args.engine.now) c.args.half) c.loop-number.number c.args.text.now.items _ _ _ _ _ _ _ c.loop-number.invariant.passed c.in_ok-lines.ensures.listed
    (half_total (state_of c.args.engine.now).plant c.args.half) (omega (arith, c.loop-number-test.true, total)) c.in_err-spill.ensures.err)
