use Rattle.logic_source.proofs.Layouts.{clocks_once}
use Rattle.logic_source.proofs.laws.clocks_stand_once.Goals as goal

pub returns : goal.returns
returns c = clocks_once
