use Rattle.std.proofs.Common.{◌≡◌, take}
use Rattle.engine_system.specs.System.{delays_of}
use Rattle.engine_system.proofs.steps.delays_of.Given as goal

abbrev pub invariant-loop-row : goal.invariant-loop-row
invariant-loop-row l = l.delays.items ≡ delays_of (take l.row-index l.rows)
