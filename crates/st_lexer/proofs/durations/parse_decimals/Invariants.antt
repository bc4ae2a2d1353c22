use Rattle.std.proofs.Common.{◌≡◌, ◌+◌, ◌≤◌, ◌^◌, drop}
use Rattle.st_lexer.specs.ReadingLiterals.{decimals_after}
use Rattle.st_lexer.proofs.durations.parse_decimals.Given as goal

abbrev pub invariant-loop-byte : goal.invariant-loop-byte
invariant-loop-byte l = record {
  same : decimals_after 0 (10 ^ 10) l.digits ≡ decimals_after l.sum l.weight (drop l.byte-index l.digits);
  room : l.sum + l.weight ≤ 10 ^ 10;
}
