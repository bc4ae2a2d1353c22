use Rattle.logic_source.proofs.Seats.{instance_clocks_stand}
use Rattle.logic_source.proofs.laws.instance_clocks_stand.Goals as goal

pub returns : goal.returns
returns c = λ blocks all r path base k i stands at. instance_clocks_stand blocks all r.instances path base k i stands at
