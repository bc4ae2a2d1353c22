use Rattle.logic_source.proofs.Seats.{element_stands}
use Rattle.logic_source.proofs.laws.named_element_stands.Goals as goal

pub returns : goal.returns
returns c = λ source r path base name n i stands numbered within. element_stands source r path base name i stands n numbered within
