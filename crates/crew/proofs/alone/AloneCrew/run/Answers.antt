use Rattle.crew.proofs.Same.{same_once}
use Rattle.crew.proofs.alone.AloneCrew.run.Goals as goal

pub returns-in-Ok-clause-each : goal.returns-in-Ok-clause-each
returns-in-Ok-clause-each g c = same_once g.J.Work.number_of _ _ c.requires.numbered c.in-Ok.ensures
