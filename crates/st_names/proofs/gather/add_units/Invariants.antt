use Rattle.std.proofs.Common.{◌≡◌, drop, map}
use Rattle.st_parser.specs.Units.{view_unit}
use Rattle.st_names.specs.Shared.{shared_in}
use Rattle.st_names.specs.Tables.{with_entries}
use Rattle.st_names.specs.Kept.{shared_entry}
use Rattle.st_names.proofs.gather.add_units.Given as goal

abbrev pub invariant-loop-unit : goal.invariant-loop-unit
invariant-loop-unit l = with_entries l.table (map shared_entry (shared_in (map view_unit (drop l.unit-index l.units)))) ≡ with_entries l.initial.table (map shared_entry (shared_in (map view_unit l.units)))
