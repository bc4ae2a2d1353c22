use Rattle.level_jobs.proofs.Planned.{parts_are}
use Rattle.level_jobs.proofs.laws.planned_parts_can_be_split.Goals as goal

pub returns : goal.returns
returns c = parts_are
