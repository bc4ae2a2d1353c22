use Rattle.logic_source.proofs.Seats.{program_stands}
use Rattle.logic_source.proofs.laws.program_values_stand.Goals as goal

pub returns : goal.returns
returns c = program_stands
