use Rattle.std.proofs.Common.{◌≡◌, take}
use Rattle.alarm_bank.specs.Reloads.{sites_of}
use Rattle.alarm_bank.proofs.news.sites_of.Given as goal

abbrev pub invariant-loop-new : goal.invariant-loop-new
invariant-loop-new l = l.sites.items ≡ sites_of (take l.new-index l.news)
