use Rattle.std.proofs.Common.{arith}
use Rattle.std.proofs.lemmas.List.{length-map}
use Rattle.engine_system.specs.Reloads.{new_of}
use Rattle.engine_system.proofs.Reloaded.{news_fit, news_sites}
use Rattle.engine_system.proofs.Systems.{sites_there}
use Rattle.engine_system.proofs.reloading.bank_after.Goals as goal

pub reloaded-requires-clause-few : goal.reloaded-requires-clause-few
reloaded-requires-clause-few c =
    let new = c.args.new.now in
    let many = length-map new.alarms (new_of c.args.plant.now) in
    let few = c.requires.plant.few in
    rw c.requires.news (omega (arith, many, few))

pub reloaded-requires-clause-areas : goal.reloaded-requires-clause-areas
reloaded-requires-clause-areas c = rw c.areas.ensures c.requires.plant.areas

pub reloaded-requires-clause-sites : goal.reloaded-requires-clause-sites
reloaded-requires-clause-sites c = rw (c.requires.news, news_sites c.args.plant.now c.args.new.now, c.areas.ensures) (sites_there c.args.new.now c.requires.plant)

pub reloaded-requires-clause-fit : goal.reloaded-requires-clause-fit
reloaded-requires-clause-fit c =
    let each = rw (← c.state.view_is) at c.requires.each in
    rw (c.requires.news, each) (news_fit c.args.plant.now c.args.new.now c.requires.plant)

pub returns : goal.returns
returns c = rw (← c.state.view_is) c.reloaded.ensures
