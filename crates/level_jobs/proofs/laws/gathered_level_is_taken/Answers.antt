use Rattle.level_jobs.proofs.Taken.{level_taken}
use Rattle.level_jobs.proofs.laws.gathered_level_is_taken.Goals as goal

pub returns : goal.returns
returns c = level_taken
