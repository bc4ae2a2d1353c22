use Rattle.std.proofs.Common.{◌≡◌, ◌<◌, ℕ, length, slice_index}
use Rattle.alarm_bank.proofs.marks.clear_words.Given as goal

abbrev pub invariant-loop-at : goal.invariant-loop-at
invariant-loop-at l = record {
  many : length l.words.items ≡ length l.fn.words.items;
  clear : (n : ℕ) → n < l.at → slice_index l.words.items n ≡ 0;
}
