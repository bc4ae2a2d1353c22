use Rattle.std.proofs.Common.{◌++◌, List, ℕ, sym, ◌∙◌, subst}
use Rattle.std.proofs.lemmas.Result.{on_ok_weaker, on_err_weaker, err_from_is_err_and}
use Rattle.serve_session.specs.Answers.{IsReload}
use Rattle.serve_session.proofs.SessionLaws.{is_reload, answered-request, stopped-request, stopped-reload}
use Rattle.serve_session.proofs.reload.answer_reload.Goals as goal

pub returns-in_err-reload_body-clause-serves : goal.returns-in_err-reload_body-clause-serves
returns-in_err-reload_body-clause-serves g c =
    let p = err_from_is_err_and c.from_residual.result c.from_residual.ensures.1 in
    rw p.1 (λ request line is same. (tt, stopped-reload _ request line c.args.handed.now.body.now c.args.handed.now.sizes _ _ _ is same c.in_err-reload_body.ensures.err))

pub returns-clause-serves : goal.returns-clause-serves
returns-clause-serves g c =
    let old = c.args.engine.now in
    let reloaded = c.in_ok-reload_body.ensures.ok in
    λ request line is same. (
      on_ok_weaker c.put_all.result (λ w. answered-request old.plant request c.reload_body.new.room.text.items _ _ _ _ (is_reload _ request line c.args.handed.now.body.now _ c.args.handed.now.sizes _ _ is same reloaded) w) (rw c.as_slice.ensures.value at c.put_all.ensures.ok),
      on_err_weaker c.put_all.result (λ e. stopped-request old.plant request e.0 e.1 _ _ _ _ (is_reload _ request line c.args.handed.now.body.now (e.0 ++ e.1) c.args.handed.now.sizes _ _ is same
          (subst (λ (t : List ℕ). IsReload old.plant old.history c.args.handed.now.sizes c.args.handed.now.body.now c.reload_body.new.engine.history t) (sym c.as_slice.ensures.value ∙ e.2) reloaded)) e.3) c.put_all.ensures.err,
    )
