use Rattle.std.proofs.Common.{◌≡◌, drop, map}
use Rattle.std.specs.List.{list_any}
use Rattle.st_names.specs.SectionKind.{SectionKind}
use Rattle.st_names.specs.Units.{view_declaration}
use Rattle.st_names.specs.DeclaredNames.{declared_as}
use Rattle.st_typing.specs.Faults.{is_wide}
use Rattle.st_typing.proofs.limits.declaration_wide.Given as goal

abbrev pub invariant-loop-name : goal.invariant-loop-name
invariant-loop-name l =
    (section : SectionKind) →
    list_any is_wide (map (declared_as section (view_declaration l.declaration)) (drop l._name-index l.declaration.names.items)) ≡ list_any is_wide (map (declared_as section (view_declaration l.declaration)) l.declaration.names.items)
