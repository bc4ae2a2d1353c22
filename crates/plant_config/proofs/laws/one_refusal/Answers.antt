-- Texts are refused for one fault.
use Rattle.plant_config.proofs.OneRefusal.{one_refusal}
use Rattle.plant_config.proofs.laws.one_refusal.Goals as goal

pub returns : goal.returns
returns c = one_refusal
