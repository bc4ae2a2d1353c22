use Rattle.std.proofs.Common.{◌≡◌, ◌<◌, ℕ, Some, length, get_or}
use Rattle.std.specs.Prelude.{slice_get}
use Rattle.vm_slices.proofs.part.give_places.Given as goal

abbrev pub invariant-loop-i : goal.invariant-loop-i
invariant-loop-i l = (length l.places ≡ length l.fn.places) × ((j s : ℕ) → j < l.i → slice_get l.slots j ≡ Some s → get_or l.places s 0 ≡ j)
