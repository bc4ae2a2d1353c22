use Rattle.st_lexer.proofs.Cutting.{word_spelling}
use Rattle.st_lexer.proofs.laws.word_spelling.Goals as goal

pub returns : goal.returns
returns c = word_spelling
