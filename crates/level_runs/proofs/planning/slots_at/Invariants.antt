use Rattle.std.proofs.Common.{◌≡◌, map, take, get_or}
use Rattle.level_runs.proofs.planning.slots_at.Given as goal

abbrev pub invariant-loop-place : goal.invariant-loop-place
invariant-loop-place l = l.found.items ≡ map (λ p. get_or l.slots p 0) (take l.place-index l.places)
