use Rattle.std.proofs.Common.{ℕ, ◌<◌}
use Rattle.st_blocks.specs.Chains.{HoldsItself}
use Rattle.st_blocks.specs.Graphs.{next_of}
use Rattle.st_blocks.proofs.holders.first_holder.Given as goal

abbrev pub invariant-loop-a : goal.invariant-loop-a
invariant-loop-a l = (b : ℕ) → b < l.a → HoldsItself (next_of l.graph) b → ⊥
