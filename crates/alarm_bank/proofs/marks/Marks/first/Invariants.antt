use Rattle.std.proofs.Common.{◌≡◌, ◌*◌, ◌<◌, ℕ, false}
use Rattle.alarm_bank.specs.Marks.{bit_of}
use Rattle.alarm_bank.proofs.marks.Marks.first.Given as goal

abbrev pub invariant-loop-index : goal.invariant-loop-index
invariant-loop-index l = (n : ℕ) → n < l.index * 64 → bit_of l.words n ≡ false
