use Rattle.std.proofs.Common.{◌≡◌, ◌+◌, ℕ, ap, subst, length, arith}
use Rattle.std.proofs.lemmas.Grind.{common_steps}
use Rattle.journal_core.specs.Rows.{PlainLog}
use Rattle.engine_system.specs.Event.TheVariants as event
use Rattle.engine_system.specs.System.{system}
use Rattle.engine.specs.Journal.{added_entries}
use Rattle.engine.specs.Engines.{PlainEngine, state_of}
use Rattle.engine_system.specs.States.{PlainPreparedOrder}
use Rattle.engine.proofs.Commits.{order_present, order_names, order_committed, order_until, order_room}
use Rattle.engine.proofs.Fitting.{order_agrees}
use Rattle.engine.proofs.Journals.{last_below}
use Rattle.engine.proofs.Lawful.{lawful_next, lawful_short}
use Rattle.engine.proofs.engine.Engine.commit_order.Goals as goal

pub invariant_of-self : goal.invariant_of-self
invariant_of-self c =
    let fits = rw (← c.self.view_is, ← c.prepared.view_is) at c.requires in
    let own = c.prepared.inside in
    let p : PlainPreparedOrder = record { console = own.console; order = own.order; done = own.done; reply = own.reply } in
    let e : PlainEngine = record { plant = c.self.inside.began; history = c.self.inside.history; row_room = c.self.inside.log.room; named = length c.self.inside.names } in
    rw (c.push.ensures, c.apply.ensures, c.push_order.ensures) ((record { state_is = order_agrees _ _ _ c.self.invariant.0.state_is fits; plant_is = c.self.invariant.0.plant_is; lawful = lawful_next _ _ _ c.self.invariant.0.lawful fits.taken; present = order_present e p c.self.inside.plant c.self.invariant.0.present; journal = order_committed _ _ _ c.self.inside.log c.self.invariant.0.state_is fits c.self.invariant.0.journal; have_names = order_names e p c.self.inside.state c.self.inside.plant c.self.inside.names c.self.inside.log c.self.invariant.0.state_is fits c.self.invariant.0.present c.self.invariant.0.journal c.self.invariant.0.have_names; until = order_until _ c.self.inside.log c.prepared.inside.console c.prepared.inside.order c.prepared.inside.done c.self.inside.state.alarms c.self.invariant.0.until }, c.self.invariant.1))

pub push_order-requires-clause-in_order : goal.push_order-requires-clause-in_order
push_order-requires-clause-in_order c = last_below c.self.inside.state.moment c.self.inside.log.rows c.self.invariant.0.until

pub push_order-requires-clause-room : goal.push_order-requires-clause-room
push_order-requires-clause-room c =
    let fits = rw (← c.self.view_is, ← c.prepared.view_is) at c.requires in
    fits.row_room

pub push-requires : goal.push-requires
push-requires c = omega (arith, (lawful_short c.self.inside.began c.self.inside.history c.self.invariant.0.lawful).0)

pub returns-clause-row_room : goal.returns-clause-row_room
returns-clause-row_room c =
    let fits = rw (← c.self.view_is, ← c.prepared.view_is) at c.requires in
    let own = c.self.inside in
    let left = order_room _ _ _ own.log c.self.invariant.0.state_is fits fits.row_room in
    let now = ap (λ (log : PlainLog). log.room) c.push_order.ensures in
    let added : PlainPreparedOrder → ℕ = λ p. length (added_entries (system own.began own.history) (event.Order p.console p.order)) in
    subst (λ (e : PlainEngine). c.push_order.new.log.room + length (added_entries (state_of e) (event.Order c.args.prepared.console c.args.prepared.order)) ≡ e.row_room) c.self.view_is
    (subst (λ (p : PlainPreparedOrder). c.push_order.new.log.room + added p ≡ own.log.room) c.prepared.view_is (omega (arith, left, now)))

pub returns-clause-plant : goal.returns-clause-plant
returns-clause-plant c = grind (arith, common_steps)
