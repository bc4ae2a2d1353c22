use Rattle.vm_logic.proofs.Ranges.{assigned_global_keeps}
use Rattle.vm_logic.proofs.laws.assigned_global_stays_in_range.Goals as goal

pub returns : goal.returns
returns c = assigned_global_keeps
