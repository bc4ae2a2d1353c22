use Rattle.std.proofs.Common.{◌≡◌, length, Result, Ok, Err, OnOk, IfErr, rules, subst}
use Rattle.engine_system.specs.Event.{Event}
use Rattle.engine_system.specs.Event.TheVariants as event
use Rattle.engine_system.specs.declared.event.EngineFault.{EngineFault}
use Rattle.engine_system.proofs.Systems.{reload_event_is}
use Rattle.engine.proofs.engine.Engine.may_reload.Goals as goal

pub returns-clause-ok : goal.returns-clause-ok
returns-clause-ok c =
    let len : c.len.result ≡ length c.self.inside.history = search rules in
    let due = reload_event_is c.self.inside.began c.self.inside.plant c.self.inside.history c.len.result c.args.plant.now c.self.invariant.0.present len in
    rw (← c.self.view_is) (subst (λ (x : Result Event EngineFault). OnOk c.may_reload.result (x ≡ Ok (event.Reload c.args.plant.now))) due c.may_reload.ensures.ok)

pub returns-clause-err : goal.returns-clause-err
returns-clause-err c =
    let len : c.len.result ≡ length c.self.inside.history = search rules in
    let due = reload_event_is c.self.inside.began c.self.inside.plant c.self.inside.history c.len.result c.args.plant.now c.self.invariant.0.present len in
    rw (← c.self.view_is) (subst (λ (x : Result Event EngineFault). IfErr c.may_reload.result (λ e. x ≡ Err e)) due c.may_reload.ensures.err)
