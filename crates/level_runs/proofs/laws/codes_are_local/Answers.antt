use Rattle.level_runs.proofs.Local.{local, known}
use Rattle.level_runs.proofs.laws.codes_are_local.Goals as goal

pub returns : goal.returns
returns c = record { local = local; known = known }
