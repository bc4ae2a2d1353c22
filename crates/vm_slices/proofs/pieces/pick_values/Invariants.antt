use Rattle.std.proofs.Common.{◌≡◌, pos, map, take, slice_index_or}
use Rattle.vm_slices.specs.Pieces.{slots_in}
use Rattle.vm_slices.proofs.pieces.pick_values.Given as goal

abbrev pub invariant-loop-piece : goal.invariant-loop-piece
invariant-loop-piece l = l.picked.items ≡ map (λ s. slice_index_or l.values s (pos 0)) (slots_in (take l.piece-index l.pieces))
