use Rattle.std.proofs.Common.{◌≡◌, ◌++◌, ◌<◌, drop, length, All}
use Rattle.std.specs.Option.{option_map}
use Rattle.engine_system.specs.Image.{inputs_of}
use Rattle.engine_system.proofs.image.list_inputs.Given as goal

abbrev pub invariant-loop-pair : goal.invariant-loop-pair
invariant-loop-pair l = record {
  inputs : inputs_of l.plant.source.globals l.pairs ≡ option_map (λ rest. l.inputs.items ++ rest) (inputs_of l.plant.source.globals (drop l.pair-index l.pairs));
  within : All (λ p. p.number < length l.plant.source.globals) l.inputs.items;
}
