use Rattle.engine_system.proofs.Systems as systems
use Rattle.engine.proofs.laws.system_keeps_its_plant.Goals as goal

pub returns : goal.returns
returns c = systems.system_keeps_its_plant
