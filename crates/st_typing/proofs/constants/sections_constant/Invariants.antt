use Rattle.std.proofs.Common.{◌≡◌, drop, map}
use Rattle.std.specs.List.{list_all}
use Rattle.st_names.specs.Units.{view_section}
use Rattle.st_names.specs.DeclaredNames.{declared_in}
use Rattle.st_typing.specs.Constants.{declared_constant}
use Rattle.st_typing.proofs.constants.sections_constant.Given as goal

abbrev pub invariant-loop-section : goal.invariant-loop-section
invariant-loop-section l =
    list_all declared_constant (declared_in (map view_section (drop l.section-index l.sections))) ≡ list_all declared_constant (declared_in (map view_section l.sections))
