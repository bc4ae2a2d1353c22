use Rattle.std.proofs.Common.{◌≡◌, drop, map}
use Rattle.std.specs.List.{list_all}
use Rattle.st_names.specs.Units.{view_section}
use Rattle.st_names.specs.DeclaredNames.{declared_in}
use Rattle.st_typing.specs.Kinds.{declared_fits}
use Rattle.st_typing.proofs.kinds.sections_fit.Given as goal

abbrev pub invariant-loop-section : goal.invariant-loop-section
invariant-loop-section g l =
    let fits = declared_fits (g.S.Scope.units l.scope) (g.S.Scope.own l.scope) in
    list_all fits (declared_in (map view_section (drop l.section-index l.sections))) ≡ list_all fits (declared_in (map view_section l.sections))
