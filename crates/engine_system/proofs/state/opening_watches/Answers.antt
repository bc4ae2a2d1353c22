use Rattle.std.proofs.Common.{◌≡◌, ◌∙◌, ap, arith}
use Rattle.std.proofs.lemmas.List.{length-map}
use Rattle.engine_system.specs.Watches.{watch_of, watches_of}
use Rattle.engine_system.proofs.state.opening_watches.Goals as goal

pub new-requires : goal.new-requires
new-requires c =
    let watches : c.in_ok-watches.watches.items ≡ watches_of c.args.plant.now.alarms = c.in_ok-watches.ensures ∙ ap watches_of c.alarm_rows.ensures.rows in
    let many = length-map c.args.plant.now.alarms watch_of in
    let few = c.alarm_rows.ensures.plant.few in
    rw watches (omega (arith, many, few))
