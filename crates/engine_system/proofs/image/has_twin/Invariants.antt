use Rattle.std.proofs.Common.{◌≡◌, ◌||◌, drop, length}
use Rattle.std.specs.List.{list_any}
use Rattle.engine_system.specs.Image.{has_twin}
use Rattle.engine_system.proofs.Twins.{marked}
use Rattle.engine_system.proofs.image.has_twin.Given as goal

abbrev pub invariant-loop-input : goal.invariant-loop-input
invariant-loop-input l = record {
  flags : length l.seen.items ≡ l.globals;
  twins : has_twin l.inputs ≡ (list_any (marked l.seen.items) (drop l.input-index l.inputs) || has_twin (drop l.input-index l.inputs));
}
