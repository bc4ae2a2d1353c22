use Rattle.st_lexer.proofs.Longest.{found_of, none_of, some_of}
use Rattle.st_lexer.proofs.next.next.Goals as goal

pub returns-clause-found : goal.returns-clause-found
returns-clause-found c = found_of c.args.text.now c.next_piece.result c.next_piece.ensures

pub returns-clause-none : goal.returns-clause-none
returns-clause-none c = none_of c.args.text.now c.next_piece.result c.next_piece.ensures

pub returns-clause-some : goal.returns-clause-some
returns-clause-some c = some_of c.args.text.now c.next_piece.result c.next_piece.ensures
