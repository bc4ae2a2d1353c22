-- The names of a plant's parts by their numbers, and the numbers by their names.
use Rattle.std.specs.Prelude.{ℕ, List, [], map, Option, slice_get, slice_index_or, position}
use Rattle.std.specs.Option.{option_map_or}
use Rattle.std.specs.Str.{bytes_eq}
use Rattle.plant_types.specs.Words.{same_word}
use Rattle.vm_logic.specs.Variable.{Variable}
use Rattle.vm_logic.specs.Source.{PlainRoutine}
use Rattle.vm_logic.specs.Names.{find_global}
use Rattle.vm_logic.specs.Paths.{paths_of, path_text}
use Rattle.plant_config.specs.Plants.{PlainPlant, tags_of}

-- the globals, in order of declaration
abbrev pub globals_of : PlainPlant → List Variable
globals_of plant = plant.source.globals

-- the names of the programs, in order
abbrev pub programs_of : PlainPlant → List (List ℕ)
programs_of plant = map (λ (p : PlainRoutine). p.name) plant.source.programs

-- the paths of the bodies in which a trap may occur, in order: the names of a program and of the instances below it, with points between them
abbrev pub body_paths : PlainPlant → List (List ℕ)
body_paths plant = map path_text (paths_of plant.source)

-- the tag of an alarm
abbrev pub tag_of : PlainPlant → ℕ → List ℕ
tag_of plant alarm = option_map_or (λ row. row.tag) (slice_get plant.alarms alarm) []

-- the priority of an alarm
abbrev pub priority_of : PlainPlant → ℕ → ℕ
priority_of plant alarm = option_map_or (λ row. row.priority) (slice_get plant.alarms alarm) 0

-- the name of an area
abbrev pub area_of : PlainPlant → ℕ → List ℕ
area_of plant area = option_map_or (λ name. name) (slice_get plant.areas area) []

-- the name of a global
abbrev pub global_of : PlainPlant → ℕ → List ℕ
global_of plant global = option_map_or (λ variable. variable.name) (slice_get (globals_of plant) global) []

-- the first alarm with a tag; letter case counts
abbrev pub alarm_number : PlainPlant → List ℕ → Option ℕ
alarm_number plant tag = position (bytes_eq tag) (tags_of plant.alarms)

-- the first global with a name; letter case is ignored
abbrev pub global_number : PlainPlant → List ℕ → Option ℕ
global_number plant name = find_global (globals_of plant) name

-- the first program with a name; letter case is ignored
abbrev pub program_number : PlainPlant → List ℕ → Option ℕ
program_number plant name = position (λ program. same_word program name) (programs_of plant)

-- the name of a program
abbrev pub program_at : PlainPlant → ℕ → List ℕ
program_at plant program = slice_index_or (programs_of plant) program []

-- the path of the body of a number
abbrev pub body_path : PlainPlant → ℕ → List ℕ
body_path plant path = slice_index_or (body_paths plant) path []
