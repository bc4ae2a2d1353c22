use Rattle.std.proofs.Common.{◌≡◌, take}
use Rattle.alarm_watch.specs.Chains.{condition_keys}
use Rattle.alarm_watch.proofs.watches.condition_keys.Given as goal

abbrev pub invariant-loop-watch : goal.invariant-loop-watch
invariant-loop-watch l = l.keys.items ≡ condition_keys (take l.watch-index l.watches)
