use Rattle.std.proofs.Common.{◌≡◌, ◌∙◌, length, refl, arith}
use Rattle.engine_system.specs.System.{system}
use Rattle.engine.specs.Engines.{PlainEngine}
use Rattle.engine.proofs.Commits.{reload_committed, reload_names, reload_present, reload_state, reload_until}
use Rattle.engine.proofs.Journals.{last_below}
use Rattle.engine.proofs.Lawful.{lawful_next, lawful_short}
use Rattle.engine.proofs.engine.Engine.commit_reload.Goals as goal

pub push-requires-clause-room : goal.push-requires-clause-room
push-requires-clause-room c =
    let fits = rw (← c.self.view_is) at c.requires in
    omega (arith, fits.row_room)

pub push-requires-clause-in_order : goal.push-requires-clause-in_order
push-requires-clause-in_order c =
    let own = c.self.inside in
    let moment : c.moment-moment.result ≡ (system own.began own.history).moment = rw (← c.self.view_is) at c.moment-moment.ensures.moment in
    let last = last_below own.state.moment own.log.rows c.self.invariant.0.until in
    omega (arith, last, moment, c.self.invariant.0.state_is.moment_is)

pub push-requires-2 : goal.push-requires-2
push-requires-2 c = omega (arith, (lawful_short c.self.inside.began c.self.inside.history c.self.invariant.0.lawful).0)

pub invariant_of-self : goal.invariant_of-self
invariant_of-self c =
    let own = c.self.inside in
    let is = c.self.invariant.0 in
    let p = c.args.prepared in
    let e : PlainEngine = record { plant = own.began; history = own.history; row_room = own.log.room; named = length own.names } in
    let fits = rw (← c.self.view_is) at c.requires in
    let moment = c.moment-moment.result in
    let at = rw (← c.self.view_is) at c.moment-moment.ensures.moment in
    let state = c.into_parts-state.ensures.state ∙ c.into_parts-plant.ensures.state in
    let kept = c.into_parts-state.ensures.kept ∙ c.into_parts-plant.ensures.kept in
    let fresh = c.into_parts-state.ensures.fresh ∙ c.into_parts-plant.ensures.fresh in
    rw (c.push-2.ensures, c.of.ensures, c.replace.ensures.after, c.into_parts-plant.ensures.plant, state, c.push.ensures, kept, fresh) ((
      record {
        state_is = reload_state e p fits;
        present = reload_present e p.plant;
        plant_is = is.plant_is;
        lawful = lawful_next _ _ _ is.lawful fits.taken;
        journal = reload_committed e p own.log moment at fits is.journal;
        have_names = reload_names e p own.plant own.names own.log moment at fits is.present is.journal refl is.have_names;
        until = reload_until e p own.state own.log moment at is.state_is fits is.until;
      },
      tt,
    ))
