use Rattle.station.proofs.Ends.{console_goes_on, console_has_ended}
use Rattle.station.proofs.laws.consoles_stay.Goals as goal

pub returns-clause-stays : goal.returns-clause-stays
returns-clause-stays c = console_goes_on

pub returns-clause-ends : goal.returns-clause-ends
returns-clause-ends c = console_has_ended

pub returns-clause-ended : goal.returns-clause-ended
returns-clause-ended g lanes c f h ends = console_has_ended lanes c.link f.link h ends.rings
