use Rattle.std.proofs.Common.{◌∙◌, arith}
use Rattle.std.proofs.lemmas.Grind.{common_steps}
use Rattle.plant_config.proofs.Programs.{numbered}
use Rattle.plant_config.proofs.plant.Plant.program_number.Goals as goal

pub returns-in-Some-clause-number : goal.returns-in-Some-clause-number
returns-in-Some-clause-number c = rw (← c.self.view_is) (c.in-Some.ensures.number ∙ numbered c.self.inside.logic.programs c.programs.result.now c.args.name.now c.programs.ensures.programs)

pub returns-in-None-clause-number : goal.returns-in-None-clause-number
returns-in-None-clause-number c = rw (← c.self.view_is) (c.in-None.ensures.number ∙ numbered c.self.inside.logic.programs c.programs.result.now c.args.name.now c.programs.ensures.programs)

pub returns-in-Some-clause-within : goal.returns-in-Some-clause-within
returns-in-Some-clause-within c = grind (arith, common_steps)
