use Rattle.vm_logic.proofs.Spots.{path_of_source, spot_of_source}
use Rattle.vm_logic.proofs.laws.place_is_in_source.Goals as goal

pub returns-clause-spot : goal.returns-clause-spot
returns-clause-spot c = spot_of_source

pub returns-clause-within : goal.returns-clause-within
returns-clause-within c = path_of_source
