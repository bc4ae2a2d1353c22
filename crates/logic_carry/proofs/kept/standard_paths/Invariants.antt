use Rattle.std.proofs.Common.{◌≡◌, map, take}
use Rattle.logic_carry.specs.Keeping.{standard_path}
use Rattle.logic_carry.proofs.kept.standard_paths.Given as goal

abbrev pub invariant-loop-standard : goal.invariant-loop-standard
invariant-loop-standard l = l.paths.items ≡ map standard_path (take l.standard-index l.standards)
