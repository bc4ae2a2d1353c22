use Rattle.logic_source.proofs.Layouts.{cells_once}
use Rattle.logic_source.proofs.laws.values_stand_once.Goals as goal

pub returns : goal.returns
returns c = cells_once
