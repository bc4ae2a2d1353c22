use Rattle.std.proofs.Common.{map}
use Rattle.st_parser.specs.Units.{view_unit}
use Rattle.st_names.specs.Shared.{shared_in}
use Rattle.st_names.specs.Tables.{with_entries}
use Rattle.st_names.specs.Kept.{shared_entry}
use Rattle.st_names.proofs.Gathered.{unit_on}
use Rattle.st_names.proofs.gather.add_units.Goals as goal

pub loop-unit-preserved : goal.loop-unit-preserved
loop-unit-preserved c =
    unit_on c.args.units.now c.loop-unit.unit-index c.unit-item.result c.loop-unit.table c.add_unit.new.table (with_entries c.args.table.now (map shared_entry (shared_in (map view_unit c.args.units.now)))) c.loop-unit-test.true c.unit-item.is
    c.loop-unit.invariant c.in_ok-add_unit.ensures
