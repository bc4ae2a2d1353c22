use Rattle.std.proofs.Common.{◌≡◌, map, take}
use Rattle.logic_carry.specs.Keeping.{value_path}
use Rattle.logic_carry.proofs.kept.value_paths.Given as goal

abbrev pub invariant-loop-value : goal.invariant-loop-value
invariant-loop-value l = l.paths.items ≡ map value_path (take l.value-index l.values)
