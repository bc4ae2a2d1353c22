use Rattle.std.proofs.Common.{take}
use Rattle.vm_slices.specs.Pieces.{ArePiecesAt}
use Rattle.vm_slices.proofs.pieces.pieces_at.Given as goal

abbrev pub invariant-loop-place : goal.invariant-loop-place
invariant-loop-place l = ArePiecesAt (take l.place-index l.places) l.slots l.pieces.items
