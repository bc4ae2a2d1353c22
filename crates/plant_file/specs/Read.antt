-- Bytes read as a plant file.
use Rattle.std.specs.Prelude.{◌≡◌, ℕ, ⊤, List, Option, Some, None, if◌then◌else◌}
use Rattle.std.specs.Str.{is_utf8}
use Rattle.toml.specs.Data.{Members}
use Rattle.toml.specs.Parse.{parse_document}
use Rattle.plant_file.specs.declared.fault.PlantFileFault.{PlantFileFault}
use Rattle.plant_file.specs.declared.fault.PlantFileFault.TheVariants as fault
use Rattle.plant_types.specs.Options.{◌>>=◌}
use Rattle.plant_file.specs.PlantFiles.{PlainPlantFile, plant_file}

-- the document of bytes, by TOML 1.1 as the crate `toml` defines it: they are UTF-8, and a byte order mark at their start is skipped
abbrev pub document_in : List ℕ → Option Members
document_in bytes = if is_utf8 bytes then parse_document bytes else None

-- the plant file that bytes are
abbrev pub plant_file_in : List ℕ → Option PlainPlantFile
plant_file_in bytes = document_in bytes >>= plant_file

-- why bytes are refused: there is no document, or it isn't that of a plant file
abbrev pub IsRefused : List ℕ → PlantFileFault → Type 0
IsRefused bytes fault.Memory = ⊤
IsRefused bytes (fault.NotToml _) = document_in bytes ≡ None
IsRefused bytes (fault.Wrong _) = (document : Members) × (document_in bytes ≡ Some document) × (plant_file document ≡ None)
