use Rattle.std.proofs.Common.{◌≡◌, drop, map}
use Rattle.std.specs.List.{list_all}
use Rattle.st_parser.specs.Units.{view_declaration}
use Rattle.st_names.specs.DeclaredNames.{declared_as}
use Rattle.st_names.specs.Known.{declared_known}
use Rattle.st_names.proofs.known.declaration_known.Given as goal

abbrev pub invariant-loop-name : goal.invariant-loop-name
invariant-loop-name g l =
    let known = declared_known (g.S.Scope.units l.scope) (g.S.Scope.own l.scope) in
    let declared = declared_as l.section (view_declaration l.declaration) in
    list_all known (map declared (drop l.name-index l.declaration.names.items)) ≡ list_all known (map declared l.declaration.names.items)
