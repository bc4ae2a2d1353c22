use Rattle.vm_logic.proofs.Standing.{global_found}
use Rattle.vm_logic.proofs.laws.found_global.Goals as goal

pub returns : goal.returns
returns c = global_found
