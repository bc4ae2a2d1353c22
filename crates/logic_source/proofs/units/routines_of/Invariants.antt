use Rattle.std.proofs.Common.{◌≡◌, map}
use Rattle.st_typing.specs.Units.{view_pou}
use Rattle.logic_source.specs.Source.{view_routine}
use Rattle.logic_source.specs.Units.{routine_of}
use Rattle.logic_source.proofs.units.routines_of.Given as goal

-- the routines so far are those of the blocks or programs so far
abbrev pub invariant-loop-pou : goal.invariant-loop-pou
invariant-loop-pou l = map view_routine l.routines.items ≡ map (routine_of l.names) (map view_pou l.yielded)
