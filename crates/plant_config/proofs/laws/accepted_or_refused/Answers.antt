-- Texts are accepted or refused.
use Rattle.plant_config.proofs.Decided.{accepted_or_refused}
use Rattle.plant_config.proofs.laws.accepted_or_refused.Goals as goal

pub returns : goal.returns
returns c = accepted_or_refused
