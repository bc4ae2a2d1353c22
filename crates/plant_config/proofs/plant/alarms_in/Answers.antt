use Rattle.std.proofs.Common.{◌≤◌, sym, subst, List, length}
use Rattle.plant_config.proofs.plant.alarms_in.Goals as goal

pub known_alarms-requires-clause-few : goal.known_alarms-requires-clause-few
known_alarms-requires-clause-few c = subst (λ (rows : List _). length rows ≤ 20000) (sym c.into_parts-rows.ensures.rows) c.into_parts-rows.ensures.database.few
