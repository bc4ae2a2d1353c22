use Rattle.std.proofs.Common.{◌≡◌, drop, map}
use Rattle.std.specs.List.{list_all}
use Rattle.st_names.specs.SectionKind.{SectionKind}
use Rattle.st_names.specs.Units.{view_declaration}
use Rattle.st_names.specs.DeclaredNames.{declared_as}
use Rattle.st_typing.specs.Constants.{declared_constant}
use Rattle.st_typing.proofs.constants.declaration_constant.Given as goal

abbrev pub invariant-loop-name : goal.invariant-loop-name
invariant-loop-name l =
    (section : SectionKind) →
    list_all declared_constant (map (declared_as section (view_declaration l.declaration)) (drop l._name-index l.declaration.names.items)) ≡ list_all declared_constant (map (declared_as section (view_declaration l.declaration)) l.declaration.names.items)
