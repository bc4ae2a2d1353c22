use Rattle.plant_config.proofs.OneAnswer.{only_plant}
use Rattle.plant_config.proofs.plant.Plant.read_observed.Goals as goal

pub returns-clause-accepted : goal.returns-clause-accepted
returns-clause-accepted g c = only_plant _ c.accepted.result c.accepted.ensures
