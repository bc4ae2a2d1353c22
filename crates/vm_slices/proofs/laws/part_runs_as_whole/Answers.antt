use Rattle.vm_slices.proofs.Carried.{part_runs}
use Rattle.vm_slices.proofs.laws.part_runs_as_whole.Goals as goal

pub returns : goal.returns
returns c = part_runs
