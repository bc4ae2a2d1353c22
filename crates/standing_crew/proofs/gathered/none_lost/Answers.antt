use Rattle.std.proofs.Common.{map, refl, arith}
use Rattle.std.proofs.lemmas.Grind.{common_steps}
use Rattle.standing_crew.proofs.Gathering.{lost_told}
use Rattle.standing_crew.proofs.gathered.none_lost.Goals as goal

pub returns-then-not-all_there : goal.returns-then-not-all_there
returns-then-not-all_there g c =
    lost_told c.args.starts.now c.args.ticks.now (map g.J.Work.ended_from c.args.got.now) c.requires (c.if-not-all_there.ensures.one refl)

pub returns : goal.returns
returns g c = grind (arith, common_steps)
