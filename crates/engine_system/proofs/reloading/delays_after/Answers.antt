use Rattle.std.proofs.Common.{◌≡◌, length, ap, sym, ◌∙◌, arith}
use Rattle.std.proofs.lemmas.List.{length-map}
use Rattle.engine_system.specs.Reloads.{kept_number}
use Rattle.engine_system.specs.System.{delays_of}
use Rattle.engine_system.proofs.Watches.{delays_many}
use Rattle.engine_system.proofs.reloading.delays_after.Goals as goal

pub reloaded-requires-clause-few : goal.reloaded-requires-clause-few
reloaded-requires-clause-few c =
    let new = c.args.new.now in
    let are : c.in_ok-delays.delays.items ≡ delays_of new.alarms = c.in_ok-delays.ensures ∙ ap delays_of c.alarm_rows.ensures.rows in
    let many = delays_many new.alarms in
    let few = c.alarm_rows.ensures.plant.few in
    rw are (omega (arith, many, few))

pub reloaded-requires-clause-each : goal.reloaded-requires-clause-each
reloaded-requires-clause-each c =
    let new = c.args.new.now in
    let are : c.in_ok-delays.delays.items ≡ delays_of new.alarms = c.in_ok-delays.ensures ∙ ap delays_of c.alarm_rows.ensures.rows in
    ap length c.requires ∙ length-map new.alarms (kept_number c.args.plant.now) ∙ sym (delays_many new.alarms) ∙ sym (ap length are)

pub returns : goal.returns
returns c =
    let are : c.in_ok-delays.delays.items ≡ delays_of c.args.new.now.alarms = c.in_ok-delays.ensures ∙ ap delays_of c.alarm_rows.ensures.rows in
    rw (← c.state.view_is, ← are) c.reloaded.ensures
