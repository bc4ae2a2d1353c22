-- Texts are accepted as one plant, and then for nothing refused.
use Rattle.plant_config.proofs.OneAnswer.{one_plant, apart}
use Rattle.plant_config.proofs.laws.one_plant.Goals as goal

pub returns : goal.returns
returns c = record { plant = one_plant; apart = λ t plant f a is. apart t plant a f is }
