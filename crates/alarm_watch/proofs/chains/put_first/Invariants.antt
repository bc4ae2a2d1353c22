use Rattle.std.proofs.Common.{◌≡◌, ◌-◌, ◌+◌, ℕ, length, slice_index}
use Rattle.alarm_watch.proofs.chains.put_first.Given as goal

abbrev pub invariant-loop-first : goal.invariant-loop-first
invariant-loop-first l = (g : ℕ) → slice_index l.first.items g ≡ slice_index l.fn.first.items g

abbrev pub decreases-loop-first : goal.decreases-loop-first
decreases-loop-first l = l.at + 1 - length l.first.items
