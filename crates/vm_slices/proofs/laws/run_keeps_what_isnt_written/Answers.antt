use Rattle.vm_slices.proofs.Runs.{keeps}
use Rattle.vm_slices.proofs.laws.run_keeps_what_isnt_written.Goals as goal

pub returns : goal.returns
returns c = keeps
