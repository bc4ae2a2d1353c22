use Rattle.st_lexer.proofs.Cutting.{one_cut}
use Rattle.st_lexer.proofs.laws.one_cut.Goals as goal

pub returns : goal.returns
returns c = one_cut
