use Rattle.std.proofs.Common.{map, take}
use Rattle.crew.specs.Ticks.{IsTicked}
use Rattle.crew.proofs.ticks.tick_off.Given as goal

abbrev pub invariant-loop-at : goal.invariant-loop-at
invariant-loop-at g l = IsTicked l.starts l.ticks (map g.J.Work.ended_from (take l.at l.got))
