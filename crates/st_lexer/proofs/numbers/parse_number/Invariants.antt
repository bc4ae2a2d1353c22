use Rattle.std.proofs.Common.{◌≡◌, drop}
use Rattle.st_lexer.specs.ReadingLiterals.{number_after}
use Rattle.st_lexer.proofs.numbers.parse_number.Given as goal

abbrev pub invariant-loop-i : goal.invariant-loop-i
invariant-loop-i l = number_after l.base 0 l.text ≡ number_after l.base l.value (drop l.i l.text)
