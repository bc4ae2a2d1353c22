use Rattle.std.proofs.Common.{◌≡◌, drop, map}
use Rattle.std.specs.List.{list_all}
use Rattle.st_names.specs.Units.{view_declaration}
use Rattle.st_names.specs.DeclaredNames.{declared_as}
use Rattle.st_typing.specs.Kinds.{declared_fits}
use Rattle.st_typing.proofs.kinds.declaration_fits.Given as goal

abbrev pub invariant-loop-name : goal.invariant-loop-name
invariant-loop-name g l =
    let fits = declared_fits (g.S.Scope.units l.scope) (g.S.Scope.own l.scope) in
    let declared = declared_as l.section (view_declaration l.declaration) in
    list_all fits (map declared (drop l.name-index l.declaration.names.items)) ≡ list_all fits (map declared l.declaration.names.items)
