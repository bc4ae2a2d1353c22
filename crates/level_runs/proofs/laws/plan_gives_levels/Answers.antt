use Rattle.level_runs.proofs.Planned.{planned_levels}
use Rattle.level_runs.proofs.laws.plan_gives_levels.Goals as goal

pub returns : goal.returns
returns c = λ moment paths globals codes levels is own. planned_levels globals codes is.accesses levels is.are own is.plan moment paths
