use Rattle.std.proofs.Common.{◌≡◌, drop, map}
use Rattle.st_names.specs.Units.{view_section}
use Rattle.st_typing.specs.Faults.{sections_wide}
use Rattle.st_typing.proofs.limits.sections_wide.Given as goal

abbrev pub invariant-loop-section : goal.invariant-loop-section
invariant-loop-section l = sections_wide (map view_section (drop l.section-index l.sections)) ≡ sections_wide (map view_section l.sections)
