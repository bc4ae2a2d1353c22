use Rattle.st_lexer.proofs.Cutting.{some_answer}
use Rattle.st_lexer.proofs.laws.some_answer.Goals as goal

pub returns : goal.returns
returns c = some_answer
