use Rattle.std.proofs.Common.{List, ℕ, map, ap, ◌∙◌, Bor}
use Rattle.std.proofs.lemmas.Result.{on_ok_weaker, on_err_weaker}
use Rattle.serve_session.proofs.ReloadLaws.{not_short, cut_texts, whole_reload, of_perhaps}
use Rattle.serve_session.proofs.reload.reload_body.Goals as goal

abbrev name_of : Bor (List ℕ) × Bor (List ℕ) → List ℕ
name_of s = s.0.now

abbrev text_of : Bor (List ℕ) × Bor (List ℕ) → List ℕ
text_of s = s.1.now

pub returns-clause-ok : goal.returns-clause-ok
returns-clause-ok g c =
    let long = not_short _ _ _ c.total.ensures c.if-body-total.false in
    let named = c.in_ok-sources.ensures in
    let same = cut_texts c.args.handed.now.sizes c.args.handed.now.body.now _ _ _ _ _ _ _ _ _ _ c.plant.ensures c.alarms.ensures c.sources.ensures c.split_behind.ensures.front c.split_behind.ensures.back
    c.split_behind-2.ensures.front c.split_behind-2.ensures.back (c.as_slice.ensures ∙ c.in_ok-names.ensures)
    (ap (map name_of) c.as_slice-2.ensures.value ∙ named.names) (ap (map text_of) c.as_slice-2.ensures.value ∙ named.texts) in
    on_ok_weaker c.reload_texts.result (λ r. whole_reload c.args.engine.now c.reload_texts.new.engine c.args.handed.now.sizes c.args.handed.now.body.now _ _ _ long c.clear.ensures.items same r) c.reload_texts.ensures.ok

pub returns-clause-err : goal.returns-clause-err
returns-clause-err g c =
    let long = not_short _ _ _ c.total.ensures c.if-body-total.false in
    let named = c.in_ok-sources.ensures in
    let same = cut_texts c.args.handed.now.sizes c.args.handed.now.body.now _ _ _ _ _ _ _ _ _ _ c.plant.ensures c.alarms.ensures c.sources.ensures c.split_behind.ensures.front c.split_behind.ensures.back
    c.split_behind-2.ensures.front c.split_behind-2.ensures.back (c.as_slice.ensures ∙ c.in_ok-names.ensures)
    (ap (map name_of) c.as_slice-2.ensures.value ∙ named.names) (ap (map text_of) c.as_slice-2.ensures.value ∙ named.texts) in
    on_err_weaker c.reload_texts.result (λ may. of_perhaps c.args.engine.now c.reload_texts.new.engine c.args.handed.now.sizes c.args.handed.now.body.now _ long same may) c.reload_texts.ensures.err
