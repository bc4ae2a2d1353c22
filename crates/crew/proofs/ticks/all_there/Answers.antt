use Rattle.std.proofs.Common.{map}
use Rattle.crew.proofs.Ticking.{all_there, lacks_there}
use Rattle.crew.proofs.ticks.all_there.Goals as goal

pub returns-clause-all : goal.returns-clause-all
returns-clause-all g c there = all_there c.args.starts.now (map g.J.Work.ended_from c.args.got.now) c.args.ticks.now c.requires (c.all_ticked.ensures.all there)

pub returns-clause-one : goal.returns-clause-one
returns-clause-one g c missing =
    let off = c.all_ticked.ensures.one missing in
    lacks_there c.args.starts.now (map g.J.Work.ended_from c.args.got.now) c.args.ticks.now off.0 c.requires off.1 off.2
