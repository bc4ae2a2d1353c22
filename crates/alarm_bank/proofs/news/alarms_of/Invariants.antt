use Rattle.std.proofs.Common.{◌≡◌, map, take}
use Rattle.alarm_bank.specs.Reloads.{alarm_of}
use Rattle.alarm_bank.proofs.news.alarms_of.Given as goal

abbrev pub invariant-loop-new : goal.invariant-loop-new
invariant-loop-new l = l.alarms.items ≡ map (alarm_of l.old) (take l.new-index l.news)
