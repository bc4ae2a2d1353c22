use Rattle.logic_source.proofs.Members.{instance_of_number}
use Rattle.logic_source.proofs.laws.instance_found.Goals as goal

pub returns : goal.returns
returns c = instance_of_number
