use Rattle.std.proofs.Common.{◌≡◌, ◌++◌, drop, map}
use Rattle.st_parser.specs.Units.{view_section}
use Rattle.st_names.specs.DeclaredNames.{declared_in}
use Rattle.st_names.proofs.declared.declared_in.Given as goal

abbrev pub invariant-loop-section : goal.invariant-loop-section
invariant-loop-section l = l.list.items ++ declared_in (map view_section (drop l.section-index l.sections)) ≡ declared_in (map view_section l.sections)
