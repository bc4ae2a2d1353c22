use Rattle.std.proofs.Common.{[], refl, inl}
use Rattle.std.proofs.KnownBytes.{Consumes-nil}
use Rattle.std.proofs.lemmas.Result.{on_ok_weaker, IfErr-weaker}
use Rattle.serve_session.proofs.SessionLaws.{stopped-none}
use Rattle.serve_runs.proofs.service.serve_plant.Goals as goal

pub returns-in-Ok-clause-ok : goal.returns-in-Ok-clause-ok
returns-in-Ok-clause-ok g c =
    let done = rw (c.in-Ok.ensures.0, c.in-Ok.ensures.1) at c.serve-ended.ensures.ok in
    on_ok_weaker c.serve-ended.result (λ a. record { input = a.0; read = a.1; at_end = a.2; wrote = record { text = a.3.text; is_text = (c.serve-ended.new.engine.history, a.3.answered); wrote = a.3.wrote } }) done

pub returns-in-Ok-clause-err : goal.returns-in-Ok-clause-err
returns-in-Ok-clause-err g c =
    let cut = rw (c.in-Ok.ensures.0, c.in-Ok.ensures.1) at c.serve-ended.ensures.err in
    IfErr-weaker c.serve-ended.result _ _ (λ e a. record { input = a.0; history = c.serve-ended.new.engine.history; read = a.1; stopped = a.2 }) cut

pub returns-in-Err-clause-err : goal.returns-in-Err-clause-err
returns-in-Err-clause-err g c = record { input = []; history = []; read = Consumes-nil _; stopped = ([], inl refl, stopped-none _ _ _ _ _ refl) }
