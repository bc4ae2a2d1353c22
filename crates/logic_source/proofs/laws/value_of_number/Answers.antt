use Rattle.logic_source.proofs.Seats.{value_read}
use Rattle.logic_source.proofs.laws.value_of_number.Goals as goal

pub returns : goal.returns
returns c = value_read
