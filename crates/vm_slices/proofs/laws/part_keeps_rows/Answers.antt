use Rattle.vm_slices.proofs.Rising.{in_one_piece}
use Rattle.vm_slices.proofs.laws.part_keeps_rows.Goals as goal

pub returns : goal.returns
returns c = λ whole part is first count named. in_one_piece part.slots is.rise is.slot_place first count (λ k lt. is.slots _ (named k lt))
