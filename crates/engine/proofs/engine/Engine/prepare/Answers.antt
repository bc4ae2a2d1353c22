use Rattle.std.proofs.Common.{◌≡◌, ◌+◌, ◌≤◌, length, Result, IfErr, rules, subst, sym, ◌∙◌, arith}
use Rattle.engine_system.specs.Event.{Event}
use Rattle.engine_system.specs.declared.event.EngineFault.{EngineFault}
use Rattle.engine_system.specs.Image.{IsDue}
use Rattle.engine.proofs.Ready.{ready}
use Rattle.engine_system.proofs.Systems.{scan_event_is}
use Rattle.engine.proofs.Fitting.{scan_fits}
use Rattle.engine.proofs.Lawful.{lawful_plant}
use Rattle.engine.proofs.engine.Engine.prepare.Goals as goal

pub prepared_scan-requires-clause-ready : goal.prepared_scan-requires-clause-ready
prepared_scan-requires-clause-ready g c = ready _ _ _ _ _ _ c.self.invariant.0

pub returns-in_err-prepared-clause-err : goal.returns-in_err-prepared-clause-err
returns-in_err-prepared-clause-err g c =
    let len : c.len-events.result ≡ length c.self.inside.history = search rules in
    let due = scan_event_is c.self.inside.began c.self.inside.plant c.self.inside.history c.self.inside.state c.len-events.result c.args.pairs.now c.args.moment c.self.invariant.0.present c.self.invariant.0.state_is len in
    rw (← c.self.view_is) (subst (λ (x : Result Event EngineFault). IfErr c.from_residual-in_err-prepared.result (λ e. IsDue e x)) due (search rules))

pub returns-clause-ok : goal.returns-clause-ok
returns-clause-ok g c =
    let made = c.in_ok-prepared.ensures.ok in
    let len : c.len-events.result ≡ length c.self.inside.history = search rules in
    let due = scan_event_is c.self.inside.began c.self.inside.plant c.self.inside.history c.self.inside.state c.len-events.result c.args.pairs.now c.args.moment c.self.invariant.0.present c.self.invariant.0.state_is len in
    let rows : length c.in_ok-prepared.prepared.report.faults + length c.in_ok-prepared.prepared.report.changes ≤ c.reserve.new.self.room = rw (← c.prepared.view_is) (
    let counted = rw c.deref.ensures at c.row_count.ensures in omega (arith, counted, c.in-Ok.ensures.ok)
    ) in
    (scan_fits _ c.self.inside.plant c.in_ok-prepared.prepared c.self.inside.state c.len-events.result c.args.pairs.now c.args.moment (lawful_plant c.self.inside.began c.self.inside.history c.self.invariant.0.plant_is c.self.invariant.0.lawful) c.self.invariant.0.present c.self.invariant.0.state_is made len rows, rw (← c.self.view_is) (sym due ∙ made.taken))
