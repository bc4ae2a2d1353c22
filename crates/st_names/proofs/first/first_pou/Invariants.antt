use Rattle.std.proofs.Common.{◌≡◌, drop, map}
use Rattle.st_parser.specs.Units.{view_pou}
use Rattle.st_names.specs.Faults.{first_pou}
use Rattle.st_names.proofs.first.first_pou.Given as goal

abbrev pub invariant-loop-i : goal.invariant-loop-i
invariant-loop-i g l =
    first_pou (g.J.Judge.bad_globals l.judge) (g.J.Judge.bad_pou l.judge) l.source l.i (map view_pou (drop l.i l.pous)) ≡ first_pou (g.J.Judge.bad_globals l.judge) (g.J.Judge.bad_pou l.judge) l.source 0 (map view_pou l.pous)
