use Rattle.std.proofs.Common.{◌≡◌, ◌+◌, drop}
use Rattle.std.specs.Char.{is_ascii_alphabetic}
use Rattle.std.specs.List.{prefix_len}
use Rattle.st_lexer.proofs.durations.letters_len.Given as goal

abbrev pub invariant-loop-byte : goal.invariant-loop-byte
invariant-loop-byte l = record {
  same : prefix_len is_ascii_alphabetic l.text ≡ l.n + prefix_len is_ascii_alphabetic (drop l.byte-index l.text);
  count : l.n ≡ l.byte-index;
}
