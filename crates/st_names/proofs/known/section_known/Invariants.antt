use Rattle.std.proofs.Common.{◌≡◌, drop, map}
use Rattle.std.specs.Prelude.{flat_map}
use Rattle.std.specs.List.{list_all}
use Rattle.st_parser.specs.Units.{view_declaration}
use Rattle.st_names.specs.DeclaredNames.{declared_together}
use Rattle.st_names.specs.Known.{declared_known}
use Rattle.st_names.proofs.known.section_known.Given as goal

abbrev pub invariant-loop-declaration : goal.invariant-loop-declaration
invariant-loop-declaration g l =
    let known = declared_known (g.S.Scope.units l.scope) (g.S.Scope.own l.scope) in
    let declared = flat_map (declared_together l.section.kind) in
    list_all known (declared (map view_declaration (drop l.declaration-index l.section.declarations.items))) ≡ list_all known (declared (map view_declaration l.section.declarations.items))
