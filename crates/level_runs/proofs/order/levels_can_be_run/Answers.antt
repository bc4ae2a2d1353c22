use Rattle.level_runs.proofs.Alone as alone
use Rattle.level_runs.proofs.order.levels_can_be_run.Goals as goal

pub returns : goal.returns
returns g c = alone.levels_can_be_run
