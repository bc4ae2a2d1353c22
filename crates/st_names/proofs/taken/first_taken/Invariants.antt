use Rattle.std.proofs.Common.{◌≡◌, drop, map}
use Rattle.plant_types.specs.Words.{folded}
use Rattle.st_parser.specs.Units.{view_unit}
use Rattle.st_names.specs.Taken.{first_taken}
use Rattle.st_names.specs.Scanned.{first_taken_after}
use Rattle.st_names.proofs.taken.first_taken.Given as goal

-- the first among the units that are left, after the names so far, is the first of all
abbrev pub invariant-loop-i : goal.invariant-loop-i
invariant-loop-i l = first_taken_after l.i (map folded l.names) (map view_unit (drop l.i l.units)) ≡ first_taken (map view_unit l.units)
