use Rattle.std.proofs.Common.{◌≡◌, ◌++◌, drop}
use Rattle.vm_slices.specs.Prints.{steps_of, told_places, opening}
use Rattle.vm_slices.proofs.prints.place_prints.Given as goal

abbrev pub invariant-loop-place : goal.invariant-loop-place
invariant-loop-place l = record {
  steps : l.prints.steps.items ++ steps_of l.last (drop l.place-index l.places) ≡ steps_of opening l.places;
  told : l.prints.told.items ++ told_places l.last (drop l.place-index l.places) ≡ told_places opening l.places;
}
