use Rattle.engine.proofs.InRange.{lawful_in_range}
use Rattle.engine.proofs.laws.lawful_history_stays_in_range.Goals as goal

pub returns : goal.returns
returns c plant history is lawful = (lawful_in_range plant history is.sound lawful).1
