use Rattle.logic_source.proofs.Seats.{calls_read}
use Rattle.logic_source.proofs.laws.calls_of_number.Goals as goal

pub returns : goal.returns
returns c = calls_read
