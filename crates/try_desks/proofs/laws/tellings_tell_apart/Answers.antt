use Rattle.try_desks.proofs.Readings.{told_apart}
use Rattle.try_desks.proofs.laws.tellings_tell_apart.Goals as goal

pub returns : goal.returns
returns c = told_apart
