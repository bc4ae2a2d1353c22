use Rattle.vm_logic.proofs.Standing.{as_many}
use Rattle.vm_logic.proofs.laws.as_many_cells.Goals as goal

pub returns : goal.returns
returns c = as_many
