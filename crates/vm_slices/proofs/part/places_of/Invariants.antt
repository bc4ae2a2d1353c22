use Rattle.std.proofs.Common.{◌≡◌, map, take, get_or}
use Rattle.vm_slices.proofs.part.places_of.Given as goal

abbrev pub invariant-loop-slot : goal.invariant-loop-slot
invariant-loop-slot l = l.found.items ≡ map (λ s. get_or l.places s 0) (take l.slot-index l.slots)
