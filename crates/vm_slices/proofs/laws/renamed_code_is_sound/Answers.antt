use Rattle.vm_slices.proofs.Sound.{sound_again}
use Rattle.vm_slices.proofs.laws.renamed_code_is_sound.Goals as goal

pub returns : goal.returns
returns c = sound_again
