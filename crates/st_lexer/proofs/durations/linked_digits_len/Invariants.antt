use Rattle.std.proofs.Common.{◌≡◌, ◌+◌, drop}
use Rattle.std.specs.Char.{is_digit}
use Rattle.st_lexer.specs.ReadingLiterals.{linked_len}
use Rattle.st_lexer.proofs.durations.linked_digits_len.Given as goal

abbrev pub invariant-loop-i : goal.invariant-loop-i
invariant-loop-i l = linked_len (λ b. is_digit b 10) 95 l.text ≡ l.i + linked_len (λ b. is_digit b 10) 95 (drop l.i l.text)
