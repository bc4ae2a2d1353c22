use Rattle.logic_source.proofs.Seats.{value_written}
use Rattle.logic_source.proofs.laws.value_written.Goals as goal

pub returns : goal.returns
returns c = value_written
