use Rattle.std.proofs.Common.{◌≡◌, ◌+◌, drop}
use Rattle.std.specs.Char.{is_ascii_digit}
use Rattle.st_lexer.specs.ReadingLiterals.{linked_len}
use Rattle.st_lexer.proofs.addresses.dotted_len.Given as goal

abbrev pub invariant-loop-i : goal.invariant-loop-i
invariant-loop-i l = linked_len is_ascii_digit 46 l.text ≡ l.i + linked_len is_ascii_digit 46 (drop l.i l.text)
