use Rattle.station.proofs.Answered.{has_answers}
use Rattle.station.proofs.Ends.{console_has_seen}
use Rattle.station.proofs.laws.consoles_saw.Goals as goal

pub returns-clause-answered : goal.returns-clause-answered
returns-clause-answered c = has_answers

pub returns-clause-saw : goal.returns-clause-saw
returns-clause-saw c = console_has_seen
