use Rattle.std.proofs.Common.{◌≡◌, ◌∙◌, ap, sym, subst, List, None}
use Rattle.vm_logic.specs.Source.{Source}
use Rattle.vm_logic.specs.Units.{source_in}
use Rattle.vm_logic.specs.Sound.{IsSound}
use Rattle.alarm_db.specs.Databases.{rows_of}
use Rattle.plant_config.specs.declared.rows.AlarmRow.{AlarmRow}
use Rattle.plant_config.specs.Alarms.{first_unknown, alarms_of}
use Rattle.plant_config.specs.Plants.{IsPlant, tags_of}
use Rattle.plant_config.specs.Stages.{HasAlarms}
use Rattle.plant_config.proofs.AlarmRows.{same_tags}
use Rattle.plant_config.proofs.Made.{made, same_plant}
use Rattle.plant_config.proofs.plant.with_logic.Goals as goal

pub returns-in-Ok : goal.returns-in-Ok
returns-in-Ok c =
    let handed = c.args.handed.now in
    let file = c.args.file.now in
    let logic = c.requires in
    let units = logic.units in
    let found = c.in-Ok.ensures in
    let alarms : c.in-Ok.alarms.items ≡ alarms_of file.areas (source_in units).globals (rows_of handed.alarms) =
    subst (λ (s : Source). c.in-Ok.alarms.items ≡ alarms_of file.areas s.globals (rows_of handed.alarms)) logic.source_is found.alarms.alarms_are in
    let known = subst (λ (s : Source). first_unknown file.areas s.globals 1 (rows_of handed.alarms) ≡ None) logic.source_is found.alarms.known in
    let has : HasAlarms handed file c.args.epoch units = record { has_database = record { sized = logic.sized; database = found.right }; known = known } in
    let same = same_plant handed file c.args.epoch units c.args.logic c.in-Ok.alarms.items logic.source_is alarms in
    record {
      accepted = record { file = file; epoch = c.args.epoch; units = units; has_alarms = has; plant_is = same };
      plant = subst IsPlant (sym same) (made handed file c.args.epoch units has (subst IsSound logic.source_is logic.sound) found.database found.file);
      tags_are = found.tags ∙ (sym (same_tags file.areas (source_in units).globals (rows_of handed.alarms)) ∙ ap tags_of (sym alarms));
    }
