use Rattle.std.proofs.Common.{◌≡◌, ◌∙◌, ap, arith}
use Rattle.std.proofs.lemmas.List.{length-map}
use Rattle.engine_history.specs.AlarmRow.{AlarmRow}
use Rattle.engine_system.specs.System.{delays_of}
use Rattle.engine_system.proofs.Watches.{if_ok, opening_kept}
use Rattle.engine_system.proofs.state.opening_delays.Goals as goal

pub new-requires : goal.new-requires
new-requires c =
    let delays : c.in_ok-delays.delays.items ≡ delays_of c.args.plant.now.alarms = c.in_ok-delays.ensures ∙ ap delays_of c.alarm_rows.ensures.rows in
    let many = length-map c.args.plant.now.alarms (λ (row : AlarmRow). row.on_delay_ms) in
    let few = c.alarm_rows.ensures.plant.few in
    rw delays (omega (arith, many, few))

pub returns : goal.returns
returns c = if_ok _ _ c.new.result (λ made is. opening_kept c.args.plant.now.alarms c.in_ok-delays.delays.items made (c.in_ok-delays.ensures ∙ ap delays_of c.alarm_rows.ensures.rows) is) c.new.ensures
