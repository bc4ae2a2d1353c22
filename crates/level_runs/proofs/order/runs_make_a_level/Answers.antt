use Rattle.level_runs.proofs.Runs as runs
use Rattle.level_runs.proofs.order.runs_make_a_level.Goals as goal

pub returns : goal.returns
returns g c = runs.runs_make_a_level
