use Rattle.vm_logic.proofs.Standing.{are_there}
use Rattle.vm_logic.proofs.laws.standing_cells_are_there.Goals as goal

pub returns : goal.returns
returns c = are_there
