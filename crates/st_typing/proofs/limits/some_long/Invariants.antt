use Rattle.std.proofs.Common.{◌≡◌, drop, map}
use Rattle.st_names.specs.Units.{view_unit}
use Rattle.st_typing.specs.Faults.{some_long}
use Rattle.st_typing.proofs.limits.some_long.Given as goal

abbrev pub invariant-loop-unit : goal.invariant-loop-unit
invariant-loop-unit l = some_long (map view_unit (drop l.unit-index l.units)) ≡ some_long (map view_unit l.units)
