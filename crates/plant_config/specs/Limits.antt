-- The limits that a plant's texts have to keep before its sources are read.
use Rattle.std.specs.Prelude.{ℕ, ◌+◌, nat_lt, Bool, ◌||◌, if◌then◌else◌, List, [], ◌∷◌, length, Option, Some, None}
use Rattle.plant_file.specs.PlantFiles.{PlainPlantFile}
use Rattle.plant_config.specs.declared.fault.Limit.{Limit}
use Rattle.plant_config.specs.declared.fault.Limit.TheVariants as limit
use Rattle.plant_config.specs.Files.{Texts}

-- how many bytes texts have together
abbrev pub total_length : List (List ℕ) → ℕ
total_length [] = 0
total_length (text ∷ texts) = length text + total_length texts

-- the sources have more than 4,194,304 bytes together, the plant file more than 1,048,576, or the alarm database more than 16,777,216
abbrev pub is_too_long : Texts → Bool
is_too_long t = nat_lt 4194304 (total_length t.sources) || nat_lt 1048576 (length t.plant) || nat_lt 16777216 (length t.alarms)

-- the first limit that isn't kept: 64 sources, the lengths of texts, 64 areas, 32 consoles
abbrev pub first_limit : Texts → PlainPlantFile → Option Limit
first_limit t file =
    if nat_lt 64 (length t.sources) then Some limit.Sources
    else if is_too_long t then Some limit.Text
    else if nat_lt 64 (length file.areas) then Some limit.Areas
    else if nat_lt 32 (length file.consoles) then Some limit.Consoles
    else None
