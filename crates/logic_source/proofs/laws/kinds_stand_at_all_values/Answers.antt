use Rattle.logic_source.proofs.KindPaths.{paths_all}
use Rattle.logic_source.proofs.laws.kinds_stand_at_all_values.Goals as goal

pub returns : goal.returns
returns c = paths_all
