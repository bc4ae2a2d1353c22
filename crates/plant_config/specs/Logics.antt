-- The logic of the units that the texts of a plant have, and the alarms in it.
use Rattle.std.specs.Prelude.{◌≡◌, ℕ, List, None}
use Rattle.st_parser.specs.Units.{PlainUnit}
use Rattle.plant_file.specs.PlantFiles.{PlainPlantFile}
use Rattle.vm_logic.specs.Source.{Source}
use Rattle.vm_logic.specs.Units.{source_in}
use Rattle.vm_logic.specs.Sound.{IsSound}
use Rattle.alarm_db.specs.Databases.{rows_of}
use Rattle.plant_config.specs.declared.rows.AlarmRow.{AlarmRow}
use Rattle.plant_config.specs.Alarms.{first_unknown, alarms_of}
use Rattle.plant_config.specs.Files.{Texts}
use Rattle.plant_config.specs.Stages.{IsSized}

-- a source is that of the units of the texts, which keep the limits; and it is sound
pub record HasLogic (t : Texts) (file : PlainPlantFile) (epoch : ℕ) (source : Source) : Type 0 where
  pub units : List PlainUnit
  pub sized : IsSized t file epoch units
  pub source_is : source ≡ source_in units
  pub sound : IsSound source

-- each alarm of the texts is of an area of the plant, with BOOL globals of a source, and these are the alarms
pub record AreKnown (t : Texts) (file : PlainPlantFile) (source : Source) (alarms : List AlarmRow) : Type 0 where
  pub known : first_unknown file.areas source.globals 1 (rows_of t.alarms) ≡ None
  pub alarms_are : alarms ≡ alarms_of file.areas source.globals (rows_of t.alarms)
