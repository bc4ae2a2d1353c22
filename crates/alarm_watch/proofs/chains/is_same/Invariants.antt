use Rattle.std.proofs.Common.{◌≡◌, ◌<◌, ◌≤◌, ℕ, true, pos, slice_index_or}
use Rattle.alarm_watch.proofs.chains.is_same.Given as goal

abbrev pub invariant-loop-at : goal.invariant-loop-at
invariant-loop-at l = l.same ≡ true → (g : ℕ) → l.from ≤ g → g < l.at → slice_index_or l.before g (pos 0) ≡ slice_index_or l.now g (pos 0)
