use Rattle.std.proofs.Common.{◌≡◌, length}
use Rattle.engine_system.specs.Image.{has_twin}
use Rattle.engine_system.proofs.image.has_twin_of_few.Given as goal

abbrev pub invariant-loop-first : goal.invariant-loop-first
invariant-loop-first l = has_twin l.inputs ≡ has_twin l.rest

abbrev pub decreases-loop-first : goal.decreases-loop-first
decreases-loop-first l = length l.rest
