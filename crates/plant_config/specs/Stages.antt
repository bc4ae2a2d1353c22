-- How far the texts of a plant are right: each record says what the one before it says, and one rule more.
use Rattle.std.specs.Prelude.{◌≡◌, ℕ, ◌<◌, true, List, Some, None}
use Rattle.base_stamps.specs.Stamps.{epoch_bound, epoch_text}
use Rattle.st_parser.specs.Units.{PlainUnit}
use Rattle.vm_logic.specs.Faults.{AreTyped}
use Rattle.plant_file.specs.PlantFiles.{PlainPlantFile}
use Rattle.plant_file.specs.Read.{plant_file_in}
use Rattle.st_sources.specs.Sources.{HaveUnits}
use Rattle.vm_logic.specs.Units.{source_in}
use Rattle.vm_logic.specs.Limits.{KeepsLimits}
use Rattle.alarm_db.specs.Databases.{first_fault, rows_of}
use Rattle.plant_config.specs.Alarms.{first_unknown, alarms_of}
use Rattle.plant_config.specs.Files.{Texts, same_texts}
use Rattle.plant_config.specs.Limits.{first_limit}
use Rattle.vm_logic.specs.Source.{Source}
use Rattle.plant_config.specs.declared.rows.AlarmRow.{AlarmRow}
use Rattle.plant_config.specs.Plants.{PlainPlant, IsPlant, plant_with, tags_of}

-- the plant file is right, and the sources handed in are those that it lists, in order
pub record HasFile (t : Texts) (file : PlainPlantFile) : Type 0 where
  pub read : plant_file_in t.plant ≡ Some file
  pub listed : same_texts t.names file.sources ≡ true

-- and so is its epoch: a second of the years 1970 to 2399
pub record HasEpoch (t : Texts) (file : PlainPlantFile) (epoch : ℕ) : Type 0 where
  pub has_file : HasFile t file
  pub epoch_is : file.epoch ≡ epoch_text epoch
  pub early : epoch < epoch_bound

-- and the limits are kept of sources, texts, areas and consoles
pub record IsLimited (t : Texts) (file : PlainPlantFile) (epoch : ℕ) : Type 0 where
  pub has_epoch : HasEpoch t file epoch
  pub limits : first_limit t file ≡ None

-- and each source spells a unit
pub record HasUnits (t : Texts) (file : PlainPlantFile) (epoch : ℕ) (units : List PlainUnit) : Type 0 where
  pub limited : IsLimited t file epoch
  pub units_are : HaveUnits t.sources units

-- and these are well formed
pub record IsWellFormed (t : Texts) (file : PlainPlantFile) (epoch : ℕ) (units : List PlainUnit) : Type 0 where
  pub has_units : HasUnits t file epoch units
  pub typed : AreTyped units

-- and their source keeps the limits on slots, size and cost
pub record IsSized (t : Texts) (file : PlainPlantFile) (epoch : ℕ) (units : List PlainUnit) : Type 0 where
  pub well_formed : IsWellFormed t file epoch units
  pub keeps : KeepsLimits (source_in units)

-- and the alarm database is right
pub record HasDatabase (t : Texts) (file : PlainPlantFile) (epoch : ℕ) (units : List PlainUnit) : Type 0 where
  pub sized : IsSized t file epoch units
  pub database : first_fault t.alarms ≡ None

-- and each of its alarms is of an area of the plant, with BOOL globals
pub record HasAlarms (t : Texts) (file : PlainPlantFile) (epoch : ℕ) (units : List PlainUnit) : Type 0 where
  pub has_database : HasDatabase t file epoch units
  pub known : first_unknown file.areas (source_in units).globals 1 (rows_of t.alarms) ≡ None

-- the plant of texts that are right
abbrev pub plant_of : Texts → PlainPlantFile → ℕ → List PlainUnit → PlainPlant
plant_of t file epoch units = plant_with (source_in units) file (alarms_of file.areas (source_in units).globals (rows_of t.alarms)) epoch

-- texts are accepted as a plant: all of them are right, and the plant is theirs
pub record Accepted (t : Texts) (plant : PlainPlant) : Type 0 where
  pub file : PlainPlantFile
  pub epoch : ℕ
  pub units : List PlainUnit
  pub has_alarms : HasAlarms t file epoch units
  pub plant_is : plant ≡ plant_of t file epoch units

-- a source, alarms and an index of tags are the parts of the plant that the texts are accepted as
pub record AreParts (t : Texts) (file : PlainPlantFile) (epoch : ℕ) (source : Source) (alarms : List AlarmRow) (tags : List (List ℕ)) : Type 0 where
  pub accepted : Accepted t (plant_with source file alarms epoch)
  pub plant : IsPlant (plant_with source file alarms epoch)
  pub tags_are : tags ≡ tags_of alarms
