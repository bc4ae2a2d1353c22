use Rattle.std.proofs.Common.{◌≡◌, drop}
use Rattle.alarm_bank.specs.Reloads.{all_fit}
use Rattle.alarm_bank.proofs.news.all_fit.Given as goal

abbrev pub invariant-loop-new : goal.invariant-loop-new
invariant-loop-new l = all_fit l.count (drop l.new-index l.news) ≡ all_fit l.count l.news
