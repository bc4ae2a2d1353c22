-- Why the texts of a plant are refused: the first rule, in their order, that isn't kept.
use Rattle.std.specs.Prelude.{◌≡◌, ◌≢◌, ◌⊎◌, ⊤, ℕ, ◌<◌, false, List, [], Some, None, slice_index_or}
use Rattle.toml.specs.Data.{Members}
use Rattle.base_stamps.specs.Stamps.{epoch_bound, epoch_text}
use Rattle.st_parser.specs.Units.{PlainUnit}
use Rattle.st_sources.specs.UnitPlace.{UnitPlace}
use Rattle.vm_logic.specs.Faults.{IsTypeFault}
use Rattle.vm_logic.specs.TypeFault.{TypeFault}
use Rattle.vm_logic.specs.TypeFault.TheVariants as type_fault
use Rattle.plant_file.specs.PlantFiles.{PlainPlantFile, plant_file}
use Rattle.plant_file.specs.Read.{document_in, plant_file_in}
use Rattle.st_sources.specs.Sources.{IsSourceFault}
use Rattle.st_sources.specs.UnitNames.{unit_name}
use Rattle.st_sources.specs.declared.fault.SourceFault.{SourceFault}
use Rattle.st_sources.specs.declared.fault.SourceFault.TheVariants as source_fault
use Rattle.vm_logic.specs.Units.{source_in}
use Rattle.vm_logic.specs.Limits.{IsLimitFault}
use Rattle.vm_logic.specs.LimitFault.{LimitFault}
use Rattle.vm_logic.specs.LimitFault.TheVariants as limit_fault
use Rattle.alarm_db.specs.Databases.{first_fault, rows_of}
use Rattle.alarm_db.specs.declared.column.Column.{Column}
use Rattle.alarm_db.specs.declared.fault.DbFault.{DbFault}
use Rattle.alarm_db.specs.declared.fault.DbFault.TheVariants as db_fault
use Rattle.plant_config.specs.declared.fault.ConfigFault.{ConfigFault}
use Rattle.plant_config.specs.declared.fault.ConfigFault.TheVariants as fault
use Rattle.plant_config.specs.declared.fault.Limit.{Limit}
use Rattle.plant_config.specs.declared.fault.Limit.TheVariants as limit
use Rattle.plant_config.specs.Alarms.{first_unknown}
use Rattle.plant_config.specs.Files.{Texts, same_texts}
use Rattle.plant_config.specs.Limits.{first_limit}
use Rattle.plant_config.specs.Stages.{HasFile, HasEpoch, IsLimited, HasUnits, IsWellFormed, IsSized, HasDatabase}

-- bytes are a TOML document, and not that of a plant file
abbrev pub IsWrongFile : List ℕ → Type 0
IsWrongFile bytes = (document : Members) × (document_in bytes ≡ Some document) × (plant_file document ≡ None)

-- the sources handed in aren't those that the plant file lists
abbrev pub HasOtherSources : Texts → Type 0
HasOtherSources t = (file : PlainPlantFile) × (plant_file_in t.plant ≡ Some file) × (same_texts t.names file.sources ≡ false)

-- the plant file is right, and its epoch is that of no second of the years 1970 to 2399
pub record HasNoEpoch (t : Texts) : Type 0 where
  pub file : PlainPlantFile
  pub has_file : HasFile t file
  pub none : (seconds : ℕ) → seconds < epoch_bound → file.epoch ≢ epoch_text seconds

-- a limit of sources, texts, areas or consoles isn't kept, and this is the first
pub record IsOverLimit (t : Texts) (found : Limit) : Type 0 where
  pub file : PlainPlantFile
  pub epoch : ℕ
  pub has_epoch : HasEpoch t file epoch
  pub first : first_limit t file ≡ Some found

-- a source spells no unit, and is the first that doesn't; the fault, and the source's name
pub record IsMisspelled (t : Texts) (found : ℕ → SourceFault) (name : List ℕ) : Type 0 where
  pub file : PlainPlantFile
  pub epoch : ℕ
  pub limited : IsLimited t file epoch
  pub number : ℕ
  pub is_fault : IsSourceFault t.sources (found number)
  pub name_is : name ≡ slice_index_or t.names number []

-- the sources aren't well formed
pub record IsMistyped (t : Texts) (found : TypeFault) : Type 0 where
  pub file : PlainPlantFile
  pub epoch : ℕ
  pub units : List PlainUnit
  pub has_units : HasUnits t file epoch units
  pub is_fault : IsTypeFault units found

-- a unit isn't well formed; the fault, the name of its source and its own
pub record IsMistypedIn (t : Texts) (found : UnitPlace → TypeFault) (name unit : List ℕ) : Type 0 where
  pub file : PlainPlantFile
  pub epoch : ℕ
  pub units : List PlainUnit
  pub has_units : HasUnits t file epoch units
  pub place : UnitPlace
  pub is_fault : IsTypeFault units (found place)
  pub name_is : name ≡ slice_index_or t.names place.source []
  pub unit_is : unit ≡ unit_name units place

-- the source of the units doesn't keep a limit on slots, size or cost; the first that it is past
pub record IsTooLarge (t : Texts) (found : LimitFault) : Type 0 where
  pub file : PlainPlantFile
  pub epoch : ℕ
  pub units : List PlainUnit
  pub well_formed : IsWellFormed t file epoch units
  pub past : IsLimitFault (source_in units) found

-- the alarm database has a fault, and this is its first
pub record HasDatabaseFault (t : Texts) (found : DbFault) : Type 0 where
  pub file : PlainPlantFile
  pub epoch : ℕ
  pub units : List PlainUnit
  pub sized : IsSized t file epoch units
  pub first : first_fault t.alarms ≡ Some found

-- a row of the alarm database names what the plant hasn't, and is the first; the row, and in it the first column
pub record NamesUnknown (t : Texts) (row : ℕ) (column : Column) : Type 0 where
  pub file : PlainPlantFile
  pub epoch : ℕ
  pub units : List PlainUnit
  pub has_database : HasDatabase t file epoch units
  pub first : first_unknown file.areas (source_in units).globals 1 (rows_of t.alarms) ≡ Some (row, column)

-- why a limit refuses texts
abbrev pub IsLimitOf : Texts → Limit → Type 0
IsLimitOf t limit.Turns = IsMistyped t type_fault.Turns
IsLimitOf t limit.BlockDepth = IsMistyped t type_fault.BlockDepth
IsLimitOf t limit.Programs = IsMistyped t type_fault.Programs
IsLimitOf t limit.Elements = IsMistyped t type_fault.Elements
IsLimitOf t limit.Slots = IsTooLarge t limit_fault.Slots
IsLimitOf t limit.Size = IsTooLarge t limit_fault.Size
IsLimitOf t limit.Cost = IsTooLarge t limit_fault.Cost
IsLimitOf t limit.Alarms = HasDatabaseFault t db_fault.TooMany
IsLimitOf t found = IsOverLimit t found

-- why bytes name no files, Memory apart
abbrev pub IsFileFault : List ℕ → ConfigFault → Type 0
IsFileFault bytes fault.Memory = ⊤
IsFileFault bytes (fault.NotToml _) = document_in bytes ≡ None
IsFileFault bytes (fault.PlantFile _) = IsWrongFile bytes
IsFileFault bytes _ = ⊥

-- why texts are refused, Memory apart
unfoldable pub IsRefused : Texts → ConfigFault → Type 0
IsRefused t fault.Memory = ⊤
IsRefused t (fault.NotToml _) = document_in t.plant ≡ None
IsRefused t (fault.PlantFile _) = IsWrongFile t.plant ⊎ HasOtherSources t
IsRefused t fault.Epoch = HasNoEpoch t
IsRefused t (fault.Limit found) = IsLimitOf t found
IsRefused t (fault.Spelling name line column) = IsMisspelled t (λ number. source_fault.Spelling number line column) name
IsRefused t (fault.Grammar name line column) = IsMisspelled t (λ number. source_fault.Grammar number line column) name
IsRefused t (fault.Name name unit) = IsMistypedIn t type_fault.Name name unit
IsRefused t (fault.Kind name unit) = IsMistypedIn t type_fault.Kind name unit
IsRefused t (fault.HoldsItself name unit) = IsMistypedIn t type_fault.HoldsItself name unit
IsRefused t (fault.Constant name unit) = IsMistypedIn t type_fault.Constant name unit
IsRefused t (fault.Header _) = HasDatabaseFault t db_fault.Header
IsRefused t (fault.Field row column _) = HasDatabaseFault t (db_fault.Field row column)
IsRefused t (fault.Twice row _) = HasDatabaseFault t (db_fault.Twice row)
IsRefused t (fault.Unknown row column _) = NamesUnknown t row column

-- a refusal without the place of a C5 in its source, for which the rule leaves a choice
abbrev pub unplaced : ConfigFault → ConfigFault
unplaced (fault.Grammar name line column) = fault.Grammar name 0 0
unplaced f = f
