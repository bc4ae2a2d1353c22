use Rattle.logic_source.proofs.Carrying.{carried_in_range}
use Rattle.logic_source.proofs.laws.carried_world_is_in_range.Goals as goal

pub returns : goal.returns
returns c = carried_in_range
