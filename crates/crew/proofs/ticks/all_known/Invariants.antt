use Rattle.std.proofs.Common.{map, take}
use Rattle.crew.specs.Ticks.{HasStranger}
use Rattle.crew.proofs.ticks.all_known.Given as goal

abbrev pub invariant-loop-at : goal.invariant-loop-at
invariant-loop-at g l = HasStranger l.starts (map g.J.Work.ended_from (take l.at l.got)) → ⊥
