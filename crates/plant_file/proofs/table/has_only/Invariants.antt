use Rattle.std.proofs.Common.{◌≡◌, map, string_bytes, String, Global}
use Rattle.std.specs.List.{list_any, list_all}
use Rattle.std.specs.Str.{bytes_eq}
use Rattle.toml.specs.View.{table_view}
use Rattle.plant_file.specs.PlantFiles.{has_only}
use Rattle.plant_file.proofs.table.has_only.Given as goal

abbrev pub invariant-loop-key : goal.invariant-loop-key
invariant-loop-key l = list_all (λ (k : String Global). list_any (bytes_eq (string_bytes k)) (map (λ x. x.now) l.keys)) l.key-iterator ≡ has_only (map (λ x. x.now) l.keys) (table_view l.table)
