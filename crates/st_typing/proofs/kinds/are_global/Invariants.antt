use Rattle.std.proofs.Common.{◌≡◌, drop, map}
use Rattle.std.specs.List.{list_all}
use Rattle.st_names.specs.Units.{view_section}
use Rattle.st_typing.specs.Kinds.{is_global}
use Rattle.st_typing.proofs.kinds.are_global.Given as goal

abbrev pub invariant-loop-section : goal.invariant-loop-section
invariant-loop-section l = list_all is_global (map view_section (drop l.section-index l.sections)) ≡ list_all is_global (map view_section l.sections)
