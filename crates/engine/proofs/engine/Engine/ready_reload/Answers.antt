use Rattle.std.proofs.Common.{length, ap, ◌∙◌}
use Rattle.engine.specs.Engines.{PlainEngine}
use Rattle.engine.proofs.Fitting.{engine_named, reload_few, reload_fits}
use Rattle.engine.proofs.Journals.{as_many_rows}
use Rattle.engine.proofs.Ready.{ready}
use Rattle.engine.proofs.engine.Engine.ready_reload.Goals as goal

pub ready_reload-requires-clause-ready : goal.ready_reload-requires-clause-ready
ready_reload-requires-clause-ready c = ready _ _ _ _ _ _ c.self.invariant.0

pub ready_reload-requires-clause-room : goal.ready_reload-requires-clause-room
ready_reload-requires-clause-room c =
    let own = c.self.inside in
    let e : PlainEngine = record { plant = own.began; history = own.history; row_room = own.log.room; named = length own.names } in
    let taken = rw (← c.self.view_is) at c.in_ok-may_reload.ensures.ok in
    reload_few e c.args.plant.now own.state c.self.invariant.0.state_is taken

pub invariant_of-self-in_err-keep_names : goal.invariant_of-self-in_err-keep_names
invariant_of-self-in_err-keep_names c =
    let own = c.self.inside in
    (engine_named own.began own.plant own.history own.log.rows c.reserve.new.self.rows own.state own.names c.keep_names.new.names c.self.invariant.0 c.in_ok-reserve.ensures.rows c.keep_names.ensures.names, c.self.invariant.1)

pub invariant_of-self-in_err-ready_reload : goal.invariant_of-self-in_err-ready_reload
invariant_of-self-in_err-ready_reload c =
    let own = c.self.inside in
    (engine_named own.began own.plant own.history own.log.rows c.reserve.new.self.rows own.state own.names c.keep_names.new.names c.self.invariant.0 c.in_ok-reserve.ensures.rows c.keep_names.ensures.names, c.self.invariant.1)

pub invariant_of-self-2 : goal.invariant_of-self-2
invariant_of-self-2 c =
    let own = c.self.inside in
    (engine_named own.began own.plant own.history own.log.rows c.reserve.new.self.rows own.state own.names c.keep_names.new.names c.self.invariant.0 c.in_ok-reserve.ensures.rows c.keep_names.ensures.names, c.self.invariant.1)

pub returns-clause-ok : goal.returns-clause-ok
returns-clause-ok c =
    let own = c.self.inside in
    let is = c.self.invariant.0 in
    let e : PlainEngine = record { plant = own.began; history = own.history; row_room = c.reserve.new.self.room; named = length c.keep_names.new.names } in
    let taken = rw (← c.self.view_is) at c.in_ok-may_reload.ensures.ok in
    let named = c.in_ok-keep_names.ensures.all ∙ ap length c.in_ok-reserve.ensures.rows ∙ as_many_rows own.began own.history own.log.rows is.journal in
    reload_fits e own.plant c.args.plant.now own.state c.in_ok-ready_reload.field-0 is.present is.state_is c.in_ok-ready_reload.ensures taken c.in_ok-reserve.ensures.ok named
