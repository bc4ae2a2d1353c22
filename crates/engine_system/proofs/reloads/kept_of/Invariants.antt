use Rattle.std.proofs.Common.{◌≡◌, take}
use Rattle.engine_system.specs.Reloads.{kept_of}
use Rattle.engine_system.proofs.reloads.kept_of.Given as goal

abbrev pub invariant-loop-new : goal.invariant-loop-new
invariant-loop-new l = l.kept.items ≡ kept_of (take l.new-index l.news)
