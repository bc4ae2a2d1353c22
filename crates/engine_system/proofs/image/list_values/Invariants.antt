use Rattle.std.proofs.Common.{◌≡◌, ◌++◌, drop}
use Rattle.std.specs.Option.{option_map}
use Rattle.engine_system.specs.Image.{values_of}
use Rattle.engine_system.proofs.image.list_values.Given as goal

abbrev pub invariant-loop-input : goal.invariant-loop-input
invariant-loop-input l = values_of l.inputs ≡ option_map (λ rest. l.values.items ++ rest) (values_of (drop l.input-index l.inputs))
