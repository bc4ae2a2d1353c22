use Rattle.std.proofs.Common.{◌≡◌, drop}
use Rattle.st_lexer.specs.Reading.{closing_len}
use Rattle.st_lexer.proofs.comments.closing_len.Given as goal

abbrev pub invariant-loop-i : goal.invariant-loop-i
invariant-loop-i l = closing_len 0 l.mark l.inner ≡ closing_len l.i l.mark (drop l.i l.inner)
