use Rattle.std.proofs.Common.{◌≡◌, ◌++◌, drop}
use Rattle.st_blocks.specs.Ranks.{ranked}
use Rattle.st_blocks.proofs.levels.add_ranked.Given as goal

abbrev pub invariant-loop-a : goal.invariant-loop-a
invariant-loop-a l = l.order.items ++ ranked l.a (drop l.a l.chains) (drop l.a l.more) ≡ l.initial.order.items ++ ranked 0 l.chains l.more
