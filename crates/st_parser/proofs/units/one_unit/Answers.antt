-- A text's tokens spell at most one unit.
use Rattle.st_parser.proofs.FoundUnits.{one_unit}
use Rattle.st_parser.proofs.units.one_unit.Goals as goal

pub returns : goal.returns
returns c = one_unit
