use Rattle.std.proofs.Common.{◌≡◌, ◌+◌, ◌==◌, not, drop}
use Rattle.std.specs.List.{prefix_len}
use Rattle.st_lexer.proofs.comments.line_len.Given as goal

abbrev pub invariant-loop-byte : goal.invariant-loop-byte
invariant-loop-byte l = record {
  same : prefix_len (λ b. not (b == 10)) l.inner ≡ l.n + prefix_len (λ b. not (b == 10)) (drop l.byte-index l.inner);
  count : l.n ≡ l.byte-index;
}
