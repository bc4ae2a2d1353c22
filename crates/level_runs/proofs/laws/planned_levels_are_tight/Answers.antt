use Rattle.level_runs.proofs.Tight.{tight}
use Rattle.level_runs.proofs.laws.planned_levels_are_tight.Goals as goal

pub returns : goal.returns
returns c = λ globals codes levels is. tight globals codes is.accesses levels is.are is.within is.plan
