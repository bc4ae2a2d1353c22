use Rattle.vm_logic.proofs.OwnCells.{no_shared_value, no_shared_clock}
use Rattle.vm_logic.proofs.laws.programs_share_no_cell.Goals as goal

pub returns-clause-values : goal.returns-clause-values
returns-clause-values c = no_shared_value

pub returns-clause-clocks : goal.returns-clause-clocks
returns-clause-clocks c = no_shared_clock
