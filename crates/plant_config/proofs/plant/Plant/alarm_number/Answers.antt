use Rattle.std.proofs.Common.{arith}
use Rattle.std.proofs.lemmas.Grind.{common_steps}
use Rattle.plant_config.proofs.plant.Plant.alarm_number.Goals as goal

pub overflow_cast-result : goal.overflow_cast-result
overflow_cast-result c = grind (arith, common_steps)

pub returns-clause-within : goal.returns-clause-within
returns-clause-within c = grind (arith, common_steps)
