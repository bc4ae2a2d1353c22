use Rattle.std.proofs.Common.{◌≡◌, ℕ, ◌<◌, slice_index_or}
use Rattle.crew.proofs.ticks.place_of.Given as goal

abbrev pub invariant-loop-place : goal.invariant-loop-place
invariant-loop-place g l = (k : ℕ) → k < l.place → slice_index_or l.starts k (g.J.Work.ended_from l.ended) ≡ g.J.Work.ended_from l.ended → ⊥
