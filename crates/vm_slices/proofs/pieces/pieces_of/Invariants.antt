use Rattle.std.proofs.Common.{◌≡◌, take}
use Rattle.vm_slices.specs.Pieces.{slots_in}
use Rattle.vm_slices.proofs.pieces.pieces_of.Given as goal

abbrev pub invariant-loop-place : goal.invariant-loop-place
invariant-loop-place l = slots_in l.pieces.items ≡ take l.place l.slots
