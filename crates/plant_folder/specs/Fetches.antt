-- Where the files of a plant are sought, and what comes of it.
use Rattle.std.specs.Prelude.{◌≡◌, ◌≢◌, ◌⊎◌, ⊤, ℕ, ◌<◌, List, [], ◌∷◌, ◌++◌, length, Option, Some, None, unwrap_or, option_map}
use Rattle.std.specs.Path.{path_parent, path_join}
use Rattle.plant_file.specs.Read.{plant_file_in}
use Rattle.plant_config.specs.declared.files.Files.{Files}
use Rattle.plant_config.specs.declared.fault.ConfigFault.{ConfigFault}
use Rattle.plant_config.specs.declared.fault.ConfigFault.TheVariants as config_fault
use Rattle.plant_config.specs.Files.{Texts, files_of}
use Rattle.plant_config.specs.Refusals.{IsFileFault}
use Rattle.plant_folder.specs.declared.texts.FetchFault.{FetchFault}
use Rattle.plant_folder.specs.declared.texts.FetchFault.TheVariants as fault

-- the path of a file that the plant file of a path names: its name, joined to the folder of that path
abbrev pub beside : List ℕ → List ℕ → List ℕ
beside plant_path name = path_join (unwrap_or (path_parent plant_path) []) name

-- the names of the files of a plant, in the order in which they are read
abbrev pub names_of : Files → List (List ℕ)
names_of files = files.sources ++ files.alarms ∷ []

-- more bytes than so many are to come, where they are known
abbrev pub HasMore : ℕ → Option (List ℕ) → Type 0
HasMore most None = ⊤
HasMore most (Some bytes) = most < length bytes

-- what may be found under a path: the bytes of a file, or none
abbrev pub Finds : Type 1
Finds = List ℕ → Option (List ℕ) → Type 0

-- files of these names are found beside a plant file, and have these texts, one after another
abbrev pub AreFound : Finds → List ℕ → List (List ℕ) → List (List ℕ) → Type 0
AreFound finds plant_path [] [] = ⊤
AreFound finds plant_path [] (text ∷ texts) = ⊥
AreFound finds plant_path (name ∷ names) [] = ⊥
AreFound finds plant_path (name ∷ names) (text ∷ texts) = finds (beside plant_path name) (Some text) × AreFound finds plant_path names texts

-- of files of these names, beside a plant file, one isn't found, and those before it are
pub record IsFirstMissing (finds : Finds) (plant_path : List ℕ) (names : List (List ℕ)) (missing : List ℕ) : Type 0 where
  pub before : List (List ℕ)
  pub after : List (List ℕ)
  pub texts : List (List ℕ)
  pub cut : names ≡ before ++ missing ∷ after
  pub found : AreFound finds plant_path before texts
  pub none : finds (beside plant_path missing) None

-- the plant file of a path is found, and names these files
pub record NamesFiles (finds : Finds) (path text : List ℕ) (files : Files) : Type 0 where
  pub found : finds path (Some text)
  pub files_are : option_map files_of (plant_file_in text) ≡ Some files

-- the texts of a plant are those of its plant file and of the files that it names, all of which are found
pub record AreTexts (finds : Finds) (path : List ℕ) (texts : Texts) : Type 0 where
  pub files : Files
  pub named : NamesFiles finds path texts.plant files
  pub names : texts.names ≡ files.sources
  pub sources : AreFound finds path files.sources texts.sources
  pub alarms : finds (beside path files.alarms) (Some texts.alarms)

-- a file isn't found: the plant file, or the first that it names
abbrev pub LacksFile : Finds → List ℕ → List ℕ → Type 0
LacksFile finds path name =
    ((name ≡ path) × finds path None)
    ⊎ ((text : List ℕ) × (files : Files) × NamesFiles finds path text files × IsFirstMissing finds path (names_of files) name)

-- the plant file is found, and is refused
abbrev pub HasWrongFile : Finds → List ℕ → ConfigFault → Type 0
HasWrongFile finds path refused = (refused ≢ config_fault.Memory) × ((text : List ℕ) × finds path (Some text) × IsFileFault text refused)

-- why the texts of a plant aren't there, Memory apart
abbrev pub IsFetchFault : Finds → List ℕ → FetchFault → Type 0
IsFetchFault finds path fault.Memory = ⊤
IsFetchFault finds path (fault.File name) = LacksFile finds path name
IsFetchFault finds path (fault.Config refused) = HasWrongFile finds path refused

-- why a plant file names no files, Memory apart
abbrev pub IsUnnamed : List ℕ → FetchFault → Type 0
IsUnnamed text fault.Memory = ⊤
IsUnnamed text (fault.File missing) = ⊥
IsUnnamed text (fault.Config refused) = (refused ≢ config_fault.Memory) × IsFileFault text refused

-- why one file isn't there, Memory apart
abbrev pub IsMiss : Finds → List ℕ → List ℕ → FetchFault → Type 0
IsMiss finds path name fault.Memory = ⊤
IsMiss finds path name (fault.File missing) = (missing ≡ name) × finds path None
IsMiss finds path name (fault.Config refused) = ⊥

-- why files of these names aren't there, Memory apart
abbrev pub AreMissed : Finds → List ℕ → List (List ℕ) → FetchFault → Type 0
AreMissed finds plant_path names fault.Memory = ⊤
AreMissed finds plant_path names (fault.File missing) = IsFirstMissing finds plant_path names missing
AreMissed finds plant_path names (fault.Config refused) = ⊥
