use Rattle.std.proofs.Common.{◌≡◌, ℕ, Option, None, replicate}
use Rattle.logic_carry.proofs.kept.empty_places.Given as goal

abbrev pub invariant-loop-number : goal.invariant-loop-number
invariant-loop-number l = l.places.items ≡ replicate {A = Option ℕ} l.number None
