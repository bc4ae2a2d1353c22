use Rattle.std.proofs.Common.{◌≡◌, ℕ, ◌<◌, false}
use Rattle.st_blocks.specs.Components.{rises}
use Rattle.st_blocks.proofs.holders.never_rises.Given as goal

abbrev pub invariant-loop-a : goal.invariant-loop-a
invariant-loop-a l = (b : ℕ) → b < l.a → rises l.graph l.components b ≡ false
