-- the alarms of the rows so far, no name of which stands for nothing
use Rattle.std.proofs.Common.{◌≡◌, ◌+◌, ◌++◌, length}
use Rattle.std.specs.Vec.Iter.{into_iter_items}
use Rattle.plant_config.specs.Alarms.{alarms_of, first_unknown}
use Rattle.plant_config.proofs.alarms.alarms_of.Given as goal

abbrev pub invariant-loop-row : goal.invariant-loop-row
invariant-loop-row l = record {
  alarms : l.alarms.items ≡ alarms_of l.areas l.logic.globals l.yielded;
  left : l.yielded ++ into_iter_items l.row-iterator ≡ l.fn.rows.items;
  rows : first_unknown l.areas l.logic.globals (length l.yielded + 1) (into_iter_items l.row-iterator) ≡ first_unknown l.areas l.logic.globals 1 l.fn.rows.items;
}
