use Rattle.std.proofs.Common.{take}
use Rattle.alarm_watch.specs.Chains.{AreChains}
use Rattle.alarm_watch.proofs.chains.chains_of.Given as goal

abbrev pub invariant-loop-at : goal.invariant-loop-at
invariant-loop-at l = AreChains (take l.at l.keys) l.first.items l.next.items
