use Rattle.std.proofs.Common.{rules, ◌≡◌, ◌++◌, ◌∙◌, map, true, ap, sym, subst, inl, arith}
use Rattle.std.proofs.lemmas.Result.{err_from_is_err_and}
use Rattle.std.proofs.lemmas.Grind.{common_steps}
use Rattle.crew.specs.Runs.{IsDistinct, IsEachOnce}
use Rattle.standing_crew.specs.Assembled.{IsCollectFault}
use Rattle.standing_crew.specs.Standings.{IsRefused}
use Rattle.standing_crew.proofs.Gathering.{handed_gathered, if_ok, joined_once, second_distinct}
use Rattle.standing_crew.proofs.standing.Standing.run_shared.Goals as goal

pub gather-requires-clause-distinct : goal.gather-requires-clause-distinct
gather-requires-clause-distinct g c =
    let others = map g.J.Work.start_of c.args.others.jobs.items in
    let starts : c.as_slice-2.result.now ≡ others = c.as_slice-2.ensures.value ∙ c.in-Ok.ensures.starts ∙ ap (λ xs. map g.J.Work.start_of xs) c.as_slice.ensures.value in
    subst (λ xs. IsDistinct xs) (sym starts) (second_distinct (map g.J.Work.start_of c.args.own.items) others c.requires)

pub returns-clause-each : goal.returns-clause-each
returns-clause-each g c =
    let f = g.J.Work.ended_from in
    let own = map g.J.Work.start_of c.args.own.items in
    let others = map g.J.Work.start_of c.args.others.jobs.items in
    let whole : c.run_all-whole.result ≡ true = search rules in
    let mine : map f c.run_all-whole.new.runs.items ≡ own = c.run_all-whole.ensures whole ∙ ap (λ xs. map f xs ++ own) c.in-Ok-with_capacity.ensures.items in
    let starts : c.as_slice-3.result.now ≡ others = c.as_slice-3.ensures.value ∙ c.in-Ok.ensures.starts ∙ ap (λ xs. map g.J.Work.start_of xs) c.as_slice.ensures.value in
    let got : c.gather.new.gathered.runs.items ≡ c.end_round-got.result.items = cc (c.end_round-got.ensures.runs) in
    let once : IsEachOnce others (map f c.end_round-got.result.items) = subst (λ xs. IsEachOnce others (map f xs)) got (subst (λ xs. IsEachOnce xs (map f c.gather.new.gathered.runs.items)) starts c.in_ok-answer.ensures) in
    if_ok _ _ c.joined.result (λ all are. joined_once f own others c.run_all-whole.new.runs.items c.end_round-got.result.items all.items mine are c.requires once) c.joined.ensures.all

pub gather-requires-clause-ticked : goal.gather-requires-clause-ticked
gather-requires-clause-ticked g c =
    let runs = map g.J.Work.ended_from c.in-Ok.gathered.runs.items in
    rw (c.as_slice-2.ensures.value) (handed_gathered c.in-Ok.starts.items c.hand_out-messages.result.fault c.in-Ok.gathered.ticks.items runs c.hand_out-messages.ensures c.in-Ok.ensures.ticked)

pub gathered_all-answer-requires : goal.gathered_all-answer-requires
gathered_all-answer-requires g c = grind (arith, common_steps)

pub returns-in_err-answer-clause-why : goal.returns-in_err-answer-clause-why
returns-in_err-answer-clause-why g c =
    let f = g.J.Work.ended_from in
    let own = map g.J.Work.start_of c.args.own.items in
    let others = map g.J.Work.start_of c.args.others.jobs.items in
    let new = c.end_round-got.new.self in
    let fault = c.in_err-answer.field-0.0 in
    let out : new.out ≡ others = c.end_round-got.ensures.out ∙ c.in-Ok.ensures.starts ∙ ap (λ xs. map g.J.Work.start_of xs) c.as_slice.ensures.value in
    let told : IsCollectFault c.in-Ok.starts.items (map f c.gather.new.gathered.runs.items) fault = subst (λ xs. IsCollectFault xs (map f c.gather.new.gathered.runs.items) fault) c.as_slice-3.ensures.value c.in_err-answer.ensures in
    let why : IsCollectFault new.out (map f new.back) fault = rw (c.end_round-got.ensures.out, c.end_round-got.ensures.back) told in
    let refused : IsRefused f (own ++ others) new.out new.back fault = record { kept = own; last = ap (λ xs. own ++ xs) (sym out); why = why } in
    let p = err_from_is_err_and c.from_residual.result c.from_residual.ensures.1 in
    rw (p.1, p.2) (inl refused)
