use Rattle.std.proofs.Common.{◌≡◌, ◌++◌, map, drop}
use Rattle.engine_system.specs.Reloads.{new_of, news_of}
use Rattle.engine_system.proofs.reloads.news_of.Given as goal

abbrev pub invariant-loop-alarm : goal.invariant-loop-alarm
invariant-loop-alarm l = l.news.items ++ map (new_of l.old) (drop l.alarm l.new.alarms) ≡ news_of l.old l.new
