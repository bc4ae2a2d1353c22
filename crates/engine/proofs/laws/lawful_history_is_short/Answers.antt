use Rattle.engine.proofs.Lawful.{lawful_short}
use Rattle.engine.proofs.laws.lawful_history_is_short.Goals as goal

pub returns : goal.returns
returns c = lawful_short
