use Rattle.std.proofs.Common.{◌≡◌, drop, map}
use Rattle.plant_types.specs.Words.{folded}
use Rattle.st_tree.specs.View.{view_argument}
use Rattle.st_names.specs.Taken.{repeats}
use Rattle.st_names.specs.Known.{given_inputs}
use Rattle.st_names.specs.Asked.{repeats_after}
use Rattle.st_names.proofs.repeated.inputs_repeat.Given as goal

abbrev pub invariant-loop-argument : goal.invariant-loop-argument
invariant-loop-argument l = repeats_after (map folded l.names) (given_inputs (map view_argument (drop l.argument-index l.arguments))) ≡ repeats (given_inputs (map view_argument l.arguments))
