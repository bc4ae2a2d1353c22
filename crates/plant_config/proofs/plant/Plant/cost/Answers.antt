use Rattle.std.proofs.Common.{arith}
use Rattle.std.proofs.lemmas.Grind.{common_steps}
use Rattle.plant_config.proofs.plant.Plant.cost.Goals as goal

pub cost-requires : goal.cost-requires
cost-requires c = grind (arith, common_steps)
