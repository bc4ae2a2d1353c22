use Rattle.std.proofs.Common.{◌≡◌, drop, map}
use Rattle.std.specs.Prelude.{flat_map}
use Rattle.std.specs.List.{list_all}
use Rattle.st_names.specs.Units.{view_declaration}
use Rattle.st_names.specs.DeclaredNames.{declared_together}
use Rattle.st_typing.specs.Kinds.{declared_fits}
use Rattle.st_typing.proofs.kinds.section_fits.Given as goal

abbrev pub invariant-loop-declaration : goal.invariant-loop-declaration
invariant-loop-declaration g l =
    let fits = declared_fits (g.S.Scope.units l.scope) (g.S.Scope.own l.scope) in
    list_all fits (flat_map (declared_together l.section.kind) (map view_declaration (drop l.declaration-index l.section.declarations.items))) ≡ list_all fits (flat_map (declared_together l.section.kind) (map view_declaration l.section.declarations.items))
