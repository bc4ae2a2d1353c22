-- What the program says of a plant.
use Rattle.std.specs.Prelude.{◌≡◌, ◌≢◌, ◌⊎◌, ⊤, ℕ, Bool, if◌then◌else◌, List, [], ◌++◌, length, codes, Option, Some, None}
use Rattle.std.specs.Fmt.{decimal}
use Rattle.plant_config.specs.declared.fault.ConfigFault.{ConfigFault}
use Rattle.plant_config.specs.declared.fault.ConfigFault.TheVariants as config_fault
use Rattle.plant_config.specs.FaultLine.{config_line}
use Rattle.plant_config.specs.Files.{Texts}
use Rattle.plant_config.specs.Names.{programs_of}
use Rattle.plant_config.specs.Plants.{PlainPlant}
use Rattle.plant_config.specs.Refusals.{IsRefused}
use Rattle.plant_config.specs.Stages.{Accepted}
use Rattle.plant_folder.specs.declared.texts.FetchFault.{FetchFault}
use Rattle.plant_folder.specs.declared.texts.FetchFault.TheVariants as fetch_fault
use Rattle.plant_folder.specs.Fetches.{Finds, AreTexts, IsFetchFault}

-- the line for a plant that is accepted: how many programs and how many alarms it has
abbrev pub accepted_line : PlainPlant → List ℕ
accepted_line plant = codes "ACCEPTED PROGRAMS " ++ decimal (length (programs_of plant)) ++ codes " ALARMS " ++ decimal (length plant.alarms) ++ codes "\n"

-- the line for a plant that is refused
abbrev pub refusal_line : ConfigFault → List ℕ
refusal_line refused = config_line refused ++ codes "\n"

-- the line for a file that isn't found, by its name as given
abbrev pub missing_line : List ℕ → List ℕ
missing_line name = codes "FILE " ++ name ++ codes "\n"

-- the line for texts of a plant that aren't there; Memory has none
abbrev pub fetch_line : FetchFault → List ℕ
fetch_line fetch_fault.Memory = []
fetch_line (fetch_fault.File name) = missing_line name
fetch_line (fetch_fault.Config refused) = refusal_line refused

-- a fault has a line: it isn't Memory
abbrev pub HasLine : FetchFault → Type 0
HasLine fetch_fault.Memory = ⊥
HasLine (fetch_fault.File name) = ⊤
HasLine (fetch_fault.Config refused) = refused ≢ config_fault.Memory

-- what is answered to texts, and the line that is due: the plant, with its line where that is asked for; or none, with the line of the refusal
abbrev pub IsVerdict : Texts → Bool → Option PlainPlant → List ℕ → Type 0
IsVerdict texts says_accepted (Some plant) line = Accepted texts plant × (line ≡ (if says_accepted then accepted_line plant else []))
IsVerdict texts says_accepted None line = (refused : ConfigFault) × (refused ≢ config_fault.Memory) × IsRefused texts refused × (line ≡ refusal_line refused)

-- the same for the files of a plant: the verdict on their texts; or none, with the line of the file that isn't found, or of the plant file's refusal
abbrev pub IsFilesVerdict : Finds → List ℕ → Bool → Option PlainPlant → List ℕ → Type 0
IsFilesVerdict finds path says_accepted answer line =
    ((texts : Texts) × AreTexts finds path texts × IsVerdict texts says_accepted answer line)
    ⊎ ((lack : FetchFault) × HasLine lack × IsFetchFault finds path lack × (answer ≡ None) × (line ≡ fetch_line lack))
