use Rattle.logic_source.proofs.Seats.{call_taken}
use Rattle.logic_source.proofs.laws.call_taken.Goals as goal

pub returns : goal.returns
returns c = call_taken
