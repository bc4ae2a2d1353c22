use Rattle.vm_logic.proofs.Ranges.{global_in_range}
use Rattle.vm_logic.proofs.laws.global_is_in_range.Goals as goal

pub returns : goal.returns
returns c = global_in_range
