use Rattle.std.proofs.Common.{arith}
use Rattle.std.proofs.lemmas.Grind.{common_steps}
use Rattle.plant_config.proofs.plant.Plant.body_path.Goals as goal

pub push_body_path-requires : goal.push_body_path-requires
push_body_path-requires c = grind (arith, common_steps)

pub returns : goal.returns
returns c = grind (arith, common_steps)
