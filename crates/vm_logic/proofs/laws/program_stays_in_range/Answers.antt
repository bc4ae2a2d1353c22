use Rattle.vm_logic.proofs.Ranges.{run_program_keeps}
use Rattle.vm_logic.proofs.laws.program_stays_in_range.Goals as goal

pub returns : goal.returns
returns c = run_program_keeps
