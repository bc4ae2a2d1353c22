use Rattle.std.proofs.Common.{◌≡◌, drop, map}
use Rattle.std.specs.List.{list_all}
use Rattle.st_parser.specs.Units.{view_section}
use Rattle.st_names.specs.DeclaredNames.{declared_in}
use Rattle.st_names.specs.Known.{declared_known}
use Rattle.st_names.proofs.known.sections_known.Given as goal

abbrev pub invariant-loop-section : goal.invariant-loop-section
invariant-loop-section g l =
    let known = declared_known (g.S.Scope.units l.scope) (g.S.Scope.own l.scope) in
    list_all known (declared_in (map view_section (drop l.section-index l.sections))) ≡ list_all known (declared_in (map view_section l.sections))
