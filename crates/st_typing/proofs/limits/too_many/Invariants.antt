use Rattle.std.proofs.Common.{◌≡◌, ◌+◌, ◌≤◌, drop, map}
use Rattle.st_names.specs.Units.{view_unit}
use Rattle.st_typing.specs.Faults.{program_count}
use Rattle.st_typing.proofs.limits.too_many.Given as goal

abbrev pub invariant-loop-unit : goal.invariant-loop-unit
invariant-loop-unit l = (l.count + program_count (map view_unit (drop l.unit-index l.units)) ≡ program_count (map view_unit l.units)) × (l.count ≤ 512)
