use Rattle.std.proofs.Common.{◌≡◌, Ok, refl, sym, ◌∙◌, subst, inr, arith}
use Rattle.std.proofs.lemmas.Grind.{common_steps}
use Rattle.std.specs.Result.{IsOk}
use Rattle.engine.specs.Plants.{PlainPlant}
use Rattle.engine.specs.Event.TheVariants as event
use Rattle.engine.specs.System.{reload_event, system}
use Rattle.engine.specs.Engines.{IsReloadRefusal, state_of}
use Rattle.console_recorder.proofs.both.ready_reload.Goals as goal

pub returns-in-Err-clause-err : goal.returns-in-Err-clause-err
returns-in-Err-clause-err g c =
    let made = c.in_ok-own.ensures in
    let is : c.in_ok-own.own.plant ≡ c.args.plant = made.ok.1 in
    let same : state_of c.prepare_reload.new.self ≡ state_of c.args.engine.now = λ i. system (made.plant i) (made.history i) in
    let taken : reload_event (state_of c.args.engine.now) c.args.plant ≡ Ok (event.Reload c.in_ok-own.own.plant) = (λ i. reload_event (sym same i) (sym is i)) ∙ made.ok.0.taken.0 in
    let refused = subst (λ (p : PlainPlant). IsReloadRefusal (state_of c.args.book.now) p c.in-Err.fault) (c.plant.ensures ∙ is) c.in-Err.ensures.err in
    (inr (subst IsOk (sym taken) refl, refused), c.into_plant.ensures ∙ is)

pub returns-in-Ok-clause-kept : goal.returns-in-Ok-clause-kept
returns-in-Ok-clause-kept c = grind (arith, common_steps)
