use Rattle.std.proofs.Common.{◌≡◌, ◌+◌, ◌≤◌, drop, map}
use Rattle.st_names.specs.Units.{view_pou}
use Rattle.st_typing.specs.Faults.{programs_among}
use Rattle.st_typing.proofs.limits.add_programs.Given as goal

abbrev pub invariant-loop-pou : goal.invariant-loop-pou
invariant-loop-pou l = (l.total + programs_among (map view_pou (drop l.pou-index l.pous)) ≡ l.count + programs_among (map view_pou l.pous)) × (l.total ≤ 512)
