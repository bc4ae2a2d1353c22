use Rattle.vm_logic.proofs.Standing.{cell_holds}
use Rattle.vm_logic.proofs.laws.cell_of_global.Goals as goal

pub returns : goal.returns
returns c = cell_holds
