use Rattle.level_runs.proofs.Levels.{levels_are_as_in_order}
use Rattle.level_runs.proofs.order.levels_are_as_in_order.Goals as goal

pub returns : goal.returns
returns g c = levels_are_as_in_order
