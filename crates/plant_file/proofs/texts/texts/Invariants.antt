use Rattle.std.proofs.Common.{◌≡◌, ◌++◌, drop, map, option_map}
use Rattle.toml.specs.View.{items_view}
use Rattle.plant_file.specs.PlantFiles.{texts}
use Rattle.plant_file.proofs.texts.texts.Given as goal

abbrev pub invariant-loop-item : goal.invariant-loop-item
invariant-loop-item l = texts (items_view l.fn.items) ≡ option_map (λ ts. map (λ s. s.now) l.found.items ++ ts) (texts (items_view (drop l.item-index l.fn.items)))
