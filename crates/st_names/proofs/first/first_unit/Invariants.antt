use Rattle.std.proofs.Common.{◌≡◌, drop, map}
use Rattle.st_parser.specs.Units.{view_unit}
use Rattle.st_names.specs.Faults.{first_unit}
use Rattle.st_names.proofs.first.first_unit.Given as goal

abbrev pub invariant-loop-i : goal.invariant-loop-i
invariant-loop-i g l =
    first_unit (g.J.Judge.bad_globals l.judge) (g.J.Judge.bad_pou l.judge) l.i (map view_unit (drop l.i l.units)) ≡ first_unit (g.J.Judge.bad_globals l.judge) (g.J.Judge.bad_pou l.judge) 0 (map view_unit l.units)
