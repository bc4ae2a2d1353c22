use Rattle.std.proofs.Common.{◌≡◌, ℕ, ◌<◌, slice_index_or, true, false}
use Rattle.crew.proofs.ticks.all_ticked.Given as goal

abbrev pub invariant-loop-tick : goal.invariant-loop-tick
invariant-loop-tick l = (k : ℕ) → k < l.tick-index → slice_index_or l.ticks k false ≡ true
