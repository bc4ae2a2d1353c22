use Rattle.engine_system.proofs.Systems as systems
use Rattle.engine.proofs.laws.event_keeps_plant.Goals as goal

pub returns : goal.returns
returns c = systems.event_keeps_plant
