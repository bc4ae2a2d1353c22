use Rattle.std.proofs.Common.{◌≡◌, drop, map}
use Rattle.st_names.specs.Units.{view_unit}
use Rattle.st_typing.specs.Faults.{some_wide}
use Rattle.st_typing.proofs.limits.some_wide.Given as goal

abbrev pub invariant-loop-unit : goal.invariant-loop-unit
invariant-loop-unit l = some_wide (map view_unit (drop l.unit-index l.units)) ≡ some_wide (map view_unit l.units)
