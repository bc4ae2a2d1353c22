-- The line that reports why a plant isn't accepted.
use Rattle.std.specs.Prelude.{ℕ, List, [], ◌++◌, codes}
use Rattle.std.specs.Fmt.{decimal}
use Rattle.alarm_db.specs.Columns.{column_name}
use Rattle.plant_config.specs.declared.fault.ConfigFault.{ConfigFault}
use Rattle.plant_config.specs.declared.fault.ConfigFault.TheVariants as fault
use Rattle.plant_config.specs.declared.fault.Limit.{Limit}
use Rattle.plant_config.specs.declared.fault.Limit.TheVariants as limit

-- the name of a limit
abbrev pub limit_name : Limit → List ℕ
limit_name limit.Sources = codes "SOURCES"
limit_name limit.Text = codes "TEXT"
limit_name limit.Areas = codes "AREAS"
limit_name limit.Consoles = codes "CONSOLES"
limit_name limit.Turns = codes "TURNS"
limit_name limit.BlockDepth = codes "BLOCK_DEPTH"
limit_name limit.Programs = codes "PROGRAMS"
limit_name limit.Elements = codes "ELEMENTS"
limit_name limit.Slots = codes "SLOTS"
limit_name limit.Size = codes "SIZE"
limit_name limit.Cost = codes "COST"
limit_name limit.Alarms = codes "ALARMS"

-- a file, a line and a column, with blanks between them
abbrev pub place_text : List ℕ → ℕ → ℕ → List ℕ
place_text file line column = file ++ codes " " ++ decimal line ++ codes " " ++ decimal column

-- a file and a unit
abbrev pub unit_text : List ℕ → List ℕ → List ℕ
unit_text file unit = file ++ codes " " ++ unit

-- the number of the fault and where it is, or what is over its limit; Memory has no line
abbrev pub config_line : ConfigFault → List ℕ
config_line fault.Memory = []
config_line (fault.NotToml _) = codes "CONFIG C1"
config_line (fault.PlantFile _) = codes "CONFIG C2"
config_line fault.Epoch = codes "CONFIG C3"
config_line (fault.Limit found) = codes "CONFIG C10 " ++ limit_name found
config_line (fault.Spelling file line column) = codes "CONFIG C4 " ++ place_text file line column
config_line (fault.Grammar file line column) = codes "CONFIG C5 " ++ place_text file line column
config_line (fault.Name file unit) = codes "CONFIG C6 " ++ unit_text file unit
config_line (fault.Kind file unit) = codes "CONFIG C7 " ++ unit_text file unit
config_line (fault.HoldsItself file unit) = codes "CONFIG C8 " ++ unit_text file unit
config_line (fault.Constant file unit) = codes "CONFIG C9 " ++ unit_text file unit
config_line (fault.Header _) = codes "CONFIG C11"
config_line (fault.Field row column _) = codes "CONFIG C12 " ++ decimal row ++ codes " " ++ column_name column
config_line (fault.Twice row _) = codes "CONFIG C13 " ++ decimal row
config_line (fault.Unknown row column _) = codes "CONFIG C14 " ++ decimal row ++ codes " " ++ column_name column
