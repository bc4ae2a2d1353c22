use Rattle.std.proofs.Common.{◌≡◌, ◌<◌, ℕ, false, Some, slice_get, length}
use Rattle.alarm_watch.proofs.watches.mark_all_unless.Given as goal

abbrev pub invariant-loop-at : goal.invariant-loop-at
invariant-loop-at l = record {
  size : length l.marks ≡ length l.fn.marks;
  marked : (n : ℕ) → n < l.at → slice_get l.marks n ≡ Some false → ⊥;
}
