use Rattle.std.proofs.Common.{◌≡◌, pos, length, map, take, slice_index_or}
use Rattle.logic_cells.proofs.picking.pick_values.Given as goal

abbrev pub invariant-loop-i : goal.invariant-loop-i
invariant-loop-i l = (length l.picked.items ≡ length l.slots) × (take l.i l.picked.items ≡ map (λ s. slice_index_or l.values s (pos 0)) (take l.i l.slots))
