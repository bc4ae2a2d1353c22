use Rattle.std.proofs.Common.{◌≡◌, length, subst, rules, arith}
use Rattle.std.proofs.lemmas.Grind.{common_steps}
use Rattle.engine.proofs.Ready.{ready}
use Rattle.engine_system.specs.Plants.{PlainPlant}
use Rattle.engine_system.specs.System.{sites_of}
use Rattle.engine_system.proofs.Systems.{order_event_ready, order_event_full}
use Rattle.engine.proofs.Fitting.{order_fits}
use Rattle.engine.proofs.engine.Engine.prepare_order.Goals as goal

pub returns-then-len-ge-MOST_EVENTS-clause-err : goal.returns-then-len-ge-MOST_EVENTS-clause-err
returns-then-len-ge-MOST_EVENTS-clause-err c =
    let len : c.len.result ≡ length c.self.inside.history = search rules in
    rw (← c.self.view_is) (order_event_full c.self.inside.began c.self.inside.history c.args.console c.args.order (omega (arith, len)))

pub prepared_order-requires-clause-alarms : goal.prepared_order-requires-clause-alarms
prepared_order-requires-clause-alarms c = (ready _ _ _ _ _ _ c.self.invariant.0).alarms

pub prepared_order-requires-clause-sites : goal.prepared_order-requires-clause-sites
prepared_order-requires-clause-sites c =
    let state = c.self.inside.state in
    subst (λ (x : PlainPlant). state.sites ≡ sites_of x.alarms) c.self.invariant.0.present c.self.invariant.0.state_is.sites_are

pub returns-clause-ok : goal.returns-clause-ok
returns-clause-ok c =
    let len : c.len.result ≡ length c.self.inside.history = search rules in
    let made = c.prepared_order.ensures in (
      order_fits _ c.self.inside.plant c.self.inside.state c.args.console c.args.order c.prepared_order.result c.self.invariant.0.present c.self.invariant.0.state_is made (omega (arith, len)) (omega (arith, c.in_ok-reserve.ensures.ok)),
      rw (← c.self.view_is) (order_event_ready c.self.inside.began c.self.inside.history c.args.console c.args.order c.prepared_order.result (omega (arith, len)) made.console_is made.order_is),
      made.console_is,
      made.order_is,
    )

pub invariant_of-self-2 : goal.invariant_of-self-2
invariant_of-self-2 c = grind (arith, common_steps)

pub invariant_of-self : goal.invariant_of-self
invariant_of-self c = grind (arith, common_steps)

pub returns-clause-plant : goal.returns-clause-plant
returns-clause-plant c = grind (arith, common_steps)

pub returns-clause-row_room : goal.returns-clause-row_room
returns-clause-row_room c = grind (arith, common_steps)
