use Rattle.engine_system.specs.System.{system}
use Rattle.engine.proofs.InRange.{lawful_in_range}
use Rattle.engine.proofs.Shown.{outputs_valued}
use Rattle.engine.proofs.laws.outputs_are_worth_their_numbers.Goals as goal

pub returns : goal.returns
returns c plant history is lawful = outputs_valued (system plant history) (lawful_in_range plant history is.sound lawful).1
