use Rattle.level_jobs.proofs.Planned.{planned_can_split}
use Rattle.level_jobs.proofs.laws.planned_levels_can_split.Goals as goal

pub returns : goal.returns
returns c = λ globals codes parts levels cells flags is own are fit levelled flagged few. planned_can_split globals codes levels is own parts cells flags are fit levelled flagged few
