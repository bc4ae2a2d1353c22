use Rattle.logic_source.proofs.Seats.{named_value_stands}
use Rattle.logic_source.proofs.laws.named_value_stands.Goals as goal

pub returns : goal.returns
returns c = named_value_stands
