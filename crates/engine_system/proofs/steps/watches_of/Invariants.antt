use Rattle.std.proofs.Common.{◌≡◌, take}
use Rattle.engine_system.specs.Watches.{watches_of}
use Rattle.engine_system.proofs.steps.watches_of.Given as goal

abbrev pub invariant-loop-row : goal.invariant-loop-row
invariant-loop-row l = l.watches.items ≡ watches_of (take l.row-index l.rows)
