use Rattle.std.proofs.Common.{◌≡◌, ◌+◌, drop}
use Rattle.st_lexer.specs.ReadingLiterals.{pointed_len}
use Rattle.st_lexer.proofs.literals.pointed_len.Given as goal

abbrev pub invariant-loop-i : goal.invariant-loop-i
invariant-loop-i l = pointed_len l.text ≡ l.i + pointed_len (drop l.i l.text)
