use Rattle.std.proofs.Common.{◌≡◌, drop, map}
use Rattle.std.specs.List.{list_any}
use Rattle.st_names.specs.Units.{view_pou}
use Rattle.st_typing.specs.Constants.{pou_long}
use Rattle.st_typing.proofs.limits.some_pou_long.Given as goal

abbrev pub invariant-loop-pou : goal.invariant-loop-pou
invariant-loop-pou l = list_any pou_long (map view_pou (drop l.pou-index l.pous)) ≡ list_any pou_long (map view_pou l.pous)
