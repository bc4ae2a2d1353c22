use Rattle.std.proofs.Common.{◌≡◌, ◌++◌, drop, option_map}
use Rattle.toml.specs.View.{items_view}
use Rattle.plant_file.specs.PlantFiles.{consoles_of}
use Rattle.plant_file.proofs.console.consoles_of.Given as goal

abbrev pub invariant-loop-item : goal.invariant-loop-item
invariant-loop-item l = consoles_of l.areas (items_view l.items) ≡ option_map (λ cs. l.consoles.items ++ cs) (consoles_of l.areas (items_view (drop l.item-index l.items)))
