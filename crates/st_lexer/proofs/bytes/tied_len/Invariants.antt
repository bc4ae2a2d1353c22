use Rattle.std.proofs.Common.{◌≡◌, ◌+◌, drop}
use Rattle.std.specs.List.{prefix_len}
use Rattle.st_lexer.specs.Bytes.{is_tied}
use Rattle.st_lexer.proofs.bytes.tied_len.Given as goal

abbrev pub invariant-loop-byte : goal.invariant-loop-byte
invariant-loop-byte l = record {
  same : prefix_len is_tied l.text ≡ l.n + prefix_len is_tied (drop l.byte-index l.text);
  count : l.n ≡ l.byte-index;
}
