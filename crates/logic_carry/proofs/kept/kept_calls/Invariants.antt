use Rattle.std.proofs.Common.{◌≡◌, map, take}
use Rattle.logic_carry.specs.Keeping.{kept_call}
use Rattle.logic_carry.proofs.kept.kept_calls.Given as goal

abbrev pub invariant-loop-standard : goal.invariant-loop-standard
invariant-loop-standard l = l.kept.items ≡ map (kept_call l.old l.places) (take l.standard-index l.new)
