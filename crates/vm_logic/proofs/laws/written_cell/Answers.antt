use Rattle.vm_logic.proofs.Standing.{cell_written}
use Rattle.vm_logic.proofs.laws.written_cell.Goals as goal

pub returns : goal.returns
returns c = cell_written
