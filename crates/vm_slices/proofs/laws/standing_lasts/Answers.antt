use Rattle.vm_slices.proofs.Carried.{stands_still}
use Rattle.vm_slices.proofs.laws.standing_lasts.Goals as goal

pub returns : goal.returns
returns c = stands_still
