use Rattle.std.proofs.Common.{◌++◌, [], refl, sym, ap, ◌∙◌, inl, Err, subst, append-nil}
use Rattle.std.specs.Io.KnownBytes.{Consumes}
use Rattle.std.proofs.KnownBytes.{Consumes-nil, Consumes-trans}
use Rattle.std.proofs.lemmas.Result.{err_from_is_err_and}
use Rattle.serve_session.proofs.SessionLaws.{stopped-none, text_is}
use Rattle.serve_session.proofs.HeldLaws.{stopped-by}
use Rattle.serve_session.proofs.session.serve.Goals as goal

pub returns-in_err-session-clause-err : goal.returns-in_err-session-clause-err
returns-in_err-session-clause-err g c =
    let p = err_from_is_err_and c.from_residual.result c.from_residual.ensures.1 in
    rw (p.1, p.2) ([], Consumes-nil _, ([], inl refl, stopped-none _ _ _ _ _ refl))

pub returns-in_err-step-clause-err : goal.returns-in_err-step-clause-err
returns-in_err-step-clause-err g c =
    let before = c.loop.invariant.so_far in
    let p = err_from_is_err_and c.from_residual-in_err-step.result c.from_residual-in_err-step.ensures.1 in
    let stops = rw c.loop.invariant.plant at c.in_err-step.ensures.err in
    rw p.1 (stopped-by _ before.0 _ _ _ _ _ _ _ _ _ _ before.1 before.2 p.0 stops (λ e. c.in_err-step.ensures.cut (ap (λ x. Err x) (sym p.2 ∙ e))))

pub returns-in-Ended-clause-text : goal.returns-in-Ended-clause-text
returns-in-Ended-clause-text g c = λ e.
    let before = c.loop.invariant.so_far in
    let ended = rw c.loop.invariant.plant at c.in_ok-step.ensures.ended c.in-Ended.is in
    text_is _ _ _ before.0 _ _ _ _ (subst (Consumes _ _) (append-nil before.0) (Consumes-trans _ _ _ before.0 [] before.1 ended.0)) ended.1 (ended.3 before.0 _ _ before.2) e

pub loop-preserved : goal.loop-preserved
loop-preserved g c =
    let before = c.loop.invariant.so_far in
    let goes = rw c.loop.invariant.plant at c.in_ok-step.ensures.more c.in-More.is in
    record {
      goes = (tt, tt);
      so_far = (before.0 ++ goes.0, Consumes-trans _ _ _ _ _ before.1 goes.2, goes.3 before.0 _ _ before.2);
      plant = c.in_ok-step.ensures.plant ∙ c.loop.invariant.plant;
      feed = c.in_ok-step.ensures.read;
      sink = c.in_ok-step.ensures.write;
      crew = c.in_ok-step.ensures.crew ∙ c.loop.invariant.crew;
    }
