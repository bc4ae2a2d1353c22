use Rattle.std.proofs.Common.{◌≡◌, map, take}
use Rattle.logic_carry.specs.Keeping.{kept_value}
use Rattle.logic_carry.proofs.kept.kept_values.Given as goal

abbrev pub invariant-loop-value : goal.invariant-loop-value
invariant-loop-value l = l.kept.items ≡ map (kept_value l.old l.places) (take l.value-index l.new)
