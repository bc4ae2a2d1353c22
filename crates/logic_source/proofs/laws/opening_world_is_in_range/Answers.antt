use Rattle.logic_source.proofs.Beginning.{opening_in_range}
use Rattle.logic_source.proofs.laws.opening_world_is_in_range.Goals as goal

pub returns : goal.returns
returns c = λ units order typed below no_globals. opening_in_range units typed order below no_globals
