use Rattle.std.proofs.Common.{◌≡◌, drop, map}
use Rattle.std.specs.List.{list_any}
use Rattle.st_names.specs.Units.{view_pou}
use Rattle.st_typing.specs.Faults.{sections_wide}
use Rattle.st_typing.proofs.limits.some_pou_wide.Given as goal

abbrev pub invariant-loop-pou : goal.invariant-loop-pou
invariant-loop-pou l = list_any (λ p. sections_wide p.sections) (map view_pou (drop l.pou-index l.pous)) ≡ list_any (λ p. sections_wide p.sections) (map view_pou l.pous)
