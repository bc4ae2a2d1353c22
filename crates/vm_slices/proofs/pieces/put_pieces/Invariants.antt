use Rattle.vm_slices.proofs.Putting.{PutPieces}
use Rattle.vm_slices.proofs.pieces.put_pieces.Given as goal

-- the items of the pieces that were gone over stand at their slots
abbrev pub invariant-loop-piece : goal.invariant-loop-piece
invariant-loop-piece l = PutPieces l.pieces l.items l.fn.row l.piece-index l.row
