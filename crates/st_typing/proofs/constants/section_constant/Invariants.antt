use Rattle.std.proofs.Common.{◌≡◌, drop, map}
use Rattle.std.specs.Prelude.{flat_map}
use Rattle.std.specs.List.{list_all}
use Rattle.st_names.specs.Units.{view_declaration}
use Rattle.st_names.specs.DeclaredNames.{declared_together}
use Rattle.st_typing.specs.Constants.{declared_constant}
use Rattle.st_typing.proofs.constants.section_constant.Given as goal

abbrev pub invariant-loop-declaration : goal.invariant-loop-declaration
invariant-loop-declaration l =
    list_all declared_constant (flat_map (declared_together l.section.kind) (map view_declaration (drop l.declaration-index l.section.declarations.items))) ≡ list_all declared_constant (flat_map (declared_together l.section.kind) (map view_declaration l.section.declarations.items))
