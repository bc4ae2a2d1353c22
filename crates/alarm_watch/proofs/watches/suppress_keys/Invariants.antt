use Rattle.std.proofs.Common.{◌≡◌, take}
use Rattle.alarm_watch.specs.Chains.{suppress_keys}
use Rattle.alarm_watch.proofs.watches.suppress_keys.Given as goal

abbrev pub invariant-loop-watch : goal.invariant-loop-watch
invariant-loop-watch l = l.keys.items ≡ suppress_keys (take l.watch-index l.watches)
