use Rattle.std.proofs.Common.{sym}
use Rattle.toml.specs.View.{table_view}
use Rattle.plant_file.proofs.Right.{right}
use Rattle.plant_file.proofs.reading.plant_file.Goals as goal

pub file_with-requires : goal.file_with-requires
file_with-requires c =
    right (table_view c.args.table.now) _ (sym (rw c.in-Some.is at c.name_in.ensures)) (sym (rw c.in-Some-2.is at c.in_ok-areas.ensures)) (sym (rw c.in-Some-3.is at c.in_ok-sources.ensures)) (sym (rw c.in-Some-alarms_in.is at c.alarms_in.ensures)) (sym (rw c.in-Some-4.is at c.in_ok-consoles.ensures))
