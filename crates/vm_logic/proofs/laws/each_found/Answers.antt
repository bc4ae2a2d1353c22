use Rattle.vm_logic.proofs.Small.{found_again}
use Rattle.vm_logic.proofs.laws.each_found.Goals as goal

pub returns : goal.returns
returns c = found_again
