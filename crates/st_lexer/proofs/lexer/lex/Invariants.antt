use Rattle.std.proofs.Common.{length}
use Rattle.st_lexer.proofs.Cutting.{SoFar}
use Rattle.st_lexer.proofs.lexer.lex.Given as goal

abbrev pub invariant-pieces : goal.invariant-pieces
invariant-pieces l = SoFar l.text l.body l.skipped l.at l.rest l.tokens.items

abbrev pub decreases-pieces : goal.decreases-pieces
decreases-pieces l = length l.rest
