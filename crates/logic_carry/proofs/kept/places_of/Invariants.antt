use Rattle.std.proofs.Common.{◌≡◌, length}
use Rattle.logic_carry.specs.Keeping.{ArePlaces}
use Rattle.logic_carry.proofs.kept.places_of.Given as goal

-- the paths so far have their places
abbrev pub invariant-loop-number : goal.invariant-loop-number
invariant-loop-number l = record { places : ArePlaces l.paths l.number l.places.items; size : length l.places.items ≡ l.size }
