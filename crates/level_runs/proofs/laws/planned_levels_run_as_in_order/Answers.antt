use Rattle.level_runs.proofs.Planned.{as_in_order}
use Rattle.level_runs.proofs.laws.planned_levels_run_as_in_order.Goals as goal

pub returns : goal.returns
returns c = λ moment paths globals codes levels is own start end faults many runs. as_in_order globals codes is.accesses levels is.are own is.plan moment paths start end faults many runs
