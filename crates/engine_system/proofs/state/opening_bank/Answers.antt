use Rattle.std.proofs.Common.{◌≡◌, ◌∙◌, ap, arith}
use Rattle.std.proofs.lemmas.Grind.{common_steps}
use Rattle.engine_system.specs.System.{sites_of}
use Rattle.engine_system.proofs.Systems.{sites_there}
use Rattle.engine_system.proofs.state.opening_bank.Goals as goal

pub new-requires-clause-sites : goal.new-requires-clause-sites
new-requires-clause-sites c =
    let sites : c.in_ok-sites.sites.items ≡ sites_of c.args.plant.now.alarms = c.in_ok-sites.ensures ∙ ap sites_of c.alarm_rows-rows.ensures.rows in
    rw (sites, c.areas.ensures) (sites_there c.args.plant.now c.alarm_rows-rows.ensures.plant)

pub new-requires-clause-each : goal.new-requires-clause-each
new-requires-clause-each c = grind (arith, common_steps)

pub new-requires-clause-few : goal.new-requires-clause-few
new-requires-clause-few c = grind (arith, common_steps)

pub opening_alarms-requires : goal.opening_alarms-requires
opening_alarms-requires c = grind (arith, common_steps)

pub returns : goal.returns
returns c = grind (arith, common_steps)
