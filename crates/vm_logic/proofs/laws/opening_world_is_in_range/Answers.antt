use Rattle.vm_logic.proofs.Ranges.{opening_in_range}
use Rattle.vm_logic.proofs.laws.opening_world_is_in_range.Goals as goal

pub returns : goal.returns
returns c = opening_in_range
