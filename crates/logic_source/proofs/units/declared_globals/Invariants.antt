use Rattle.std.proofs.Common.{◌≡◌, ◌++◌, drop, map}
use Rattle.st_typing.specs.Units.{view_unit}
use Rattle.logic_source.specs.Units.{declared_globals}
use Rattle.logic_source.proofs.units.declared_globals.Given as goal

-- the names so far, and those of the other units, are all
abbrev pub invariant-loop-unit : goal.invariant-loop-unit
invariant-loop-unit l = l.list.items ++ declared_globals (map view_unit (drop l.unit-index l.units)) ≡ declared_globals (map view_unit l.units)
