use Rattle.logic_source.proofs.Ranging.{program_keeps}
use Rattle.logic_source.proofs.laws.program_stays_in_range.Goals as goal

pub returns : goal.returns
returns c = λ units order typed below no_globals n t w holds. program_keeps units typed order below no_globals t n w holds
