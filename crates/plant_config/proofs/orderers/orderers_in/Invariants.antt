-- the lists of the areas so far
use Rattle.std.proofs.Common.{◌≡◌, ◌<◌, ℕ, [], length}
use Rattle.std.specs.Prelude.{slice_index_or}
use Rattle.plant_config.specs.Orderers.{orderers_of}
use Rattle.plant_config.proofs.orderers.orderers_in.Given as goal

abbrev pub invariant-loop-area : goal.invariant-loop-area
invariant-loop-area l = record {
  count : length l.lists.items ≡ l.area;
  each : (k : ℕ) → k < l.area → slice_index_or l.lists.items k [] ≡ orderers_of l.consoles k;
}
