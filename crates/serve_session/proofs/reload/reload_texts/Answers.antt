use Rattle.std.proofs.Common.{◌++◌, List, ℕ, ap, ◌∙◌}
use Rattle.std.proofs.lemmas.Result.{on_ok_weaker, on_err_weaker}
use Rattle.serve_session.proofs.ReloadLaws.{perhaps_reloaded, told_refusal, added_ok}
use Rattle.serve_session.proofs.reload.reload_texts.Goals as goal

pub returns-in-Some-clause-err : goal.returns-in-Some-clause-err
returns-in-Some-clause-err g c =
    on_err_weaker c.reload_plant.result (λ may. perhaps_reloaded _ c.args.engine.now c.reload_plant.new.engine _ _ _ c.in_ok-accepted.ensures c.in-Some.is may) c.reload_plant.ensures.err

pub returns-clause-ok : goal.returns-clause-ok
returns-clause-ok g c =
    on_ok_weaker c.extend_from_slice.result
    (λ items. told_refusal _ c.args.engine.now _ _ _ _ c.in_ok-accepted.ensures c.in-None.is (items ∙ ap (λ (xs : List ℕ). c.args.room.now.text.items ++ xs) c.as_bytes.ensures.value))
    (added_ok c.extend_from_slice.result c.extend_from_slice.new.self.items c.args.room.now.text.items c.as_bytes.result.now c.extend_from_slice.ensures.items)
