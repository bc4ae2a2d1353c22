use Rattle.logic_source.proofs.Seats.{instance_stands}
use Rattle.logic_source.proofs.laws.instance_values_stand.Goals as goal

pub returns : goal.returns
returns c = instance_stands
