use Rattle.logic_source.proofs.Seats.{program_clocks_stand}
use Rattle.logic_source.proofs.laws.program_clocks_stand.Goals as goal

pub returns : goal.returns
returns c = program_clocks_stand
