use Rattle.std.proofs.Common.{◌≡◌, ◌++◌, drop, map, option_map, string_bytes}
use Rattle.plant_file.specs.PlantFiles.{numbers_of}
use Rattle.plant_file.proofs.console.numbers_of.Given as goal

abbrev pub invariant-loop-name : goal.invariant-loop-name
invariant-loop-name l = numbers_of l.areas (map string_bytes l.names) ≡ option_map (λ ns. l.numbers.items ++ ns) (numbers_of l.areas (map string_bytes (drop l.name-index l.names)))
