use Rattle.logic_source.proofs.KindPaths.{global_in}
use Rattle.logic_source.proofs.laws.global_is_in_range.Goals as goal

pub returns : goal.returns
returns c = global_in
