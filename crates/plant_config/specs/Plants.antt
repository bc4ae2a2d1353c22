-- A plant as contracts see it.
use Rattle.std.specs.Prelude.{◌≡◌, ◌≢◌, ℕ, false, ◌<◌, ◌≤◌, ◌^◌, List, length, map, slice_get, IfSome, All, AllPairs}
use Rattle.plant_types.specs.declared.values.Kind.TheVariants as kind
use Rattle.std.specs.Str.{bytes_eq}
use Rattle.base_stamps.specs.Stamps.{epoch_bound}
use Rattle.plant_file.specs.Lists.{repeats}
use Rattle.plant_file.specs.PlantFiles.{PlainPlantFile, IsConsole, numbers_clash}
use Rattle.plant_file.specs.declared.console.ListedConsole.{ListedConsole}
use Rattle.vm_logic.specs.Variable.{Variable}
use Rattle.vm_logic.specs.Source.{Source}
use Rattle.vm_logic.specs.Sound.{IsSound}
use Rattle.plant_config.specs.declared.rows.AlarmRow.{AlarmRow}

-- its logic, the names of its areas, its consoles and its alarms, in order, and its epoch in seconds after 1970-01-01T00:00:00Z; areas and globals are numbered from 0
pub record PlainPlant : Type 0 where
  pub source : Source
  pub areas : List (List ℕ)
  pub consoles : List ListedConsole
  pub alarms : List AlarmRow
  pub epoch : ℕ

-- the plant of a source, a plant file, alarms and an epoch
abbrev pub plant_with : Source → PlainPlantFile → List AlarmRow → ℕ → PlainPlant
plant_with source file alarms epoch = record { source = source; areas = file.areas; consoles = file.consoles; alarms = alarms; epoch = epoch }

-- a number is that of a BOOL global
pub record IsBoolGlobal (globals : List Variable) (number : ℕ) : Type 0 where
  pub within : number < length globals
  pub is_bool : IfSome (slice_get globals number) (λ global. global.kind ≡ kind.Bool)

-- what holds of each alarm of a plant
pub record IsAlarmRow (plant : PlainPlant) (row : AlarmRow) : Type 0 where
  pub area : row.area < length plant.areas
  pub lowest : 1 ≤ row.priority
  pub highest : row.priority ≤ 4
  pub condition : IsBoolGlobal plant.source.globals row.condition
  pub suppress : IfSome row.suppress (IsBoolGlobal plant.source.globals)
  pub shelve : row.max_shelve_ms ≤ 2592000000
  pub delay : row.on_delay_ms ≤ 86400000

-- the tags of alarms
abbrev pub tags_of : List AlarmRow → List (List ℕ)
tags_of rows = map (λ (row : AlarmRow). row.tag) rows

-- two alarms have different tags
abbrev pub HaveDifferentTags : AlarmRow → AlarmRow → Type 0
HaveDifferentTags a b = a.tag ≢ b.tag

-- what holds of each plant: its logic is sound, globals and programs can be numbered by 32 bits, it keeps the limits, no two areas have one name, no two consoles one number, and no two alarms one tag
pub record IsPlant (plant : PlainPlant) : Type 0 where
  pub sound : IsSound plant.source
  pub globals : length plant.source.globals < 2 ^ 32
  pub programs : length plant.source.programs < 2 ^ 32
  pub few : length plant.alarms ≤ 20000
  pub areas : length plant.areas ≤ 64
  pub areas_once : repeats bytes_eq plant.areas ≡ false
  pub few_consoles : length plant.consoles ≤ 32
  pub consoles : All (IsConsole plant.areas) plant.consoles
  pub consoles_once : numbers_clash plant.consoles ≡ false
  pub alarms : All (IsAlarmRow plant) plant.alarms
  pub tags : AllPairs HaveDifferentTags plant.alarms
  pub epoch : plant.epoch < epoch_bound
