use Rattle.vm_slices.proofs.Overs.{runs_whole}
use Rattle.vm_slices.proofs.laws.part_ran_as_whole.Goals as goal

pub returns : goal.returns
returns c = runs_whole
