use Rattle.std.proofs.Common.{◌≡◌, drop, map}
use Rattle.plant_types.specs.Words.{folded}
use Rattle.st_tree.specs.View.{view_argument}
use Rattle.st_names.specs.Taken.{repeats}
use Rattle.st_names.specs.Known.{taken_outputs}
use Rattle.st_names.specs.Asked.{repeats_after}
use Rattle.st_names.proofs.repeated.outputs_repeat.Given as goal

abbrev pub invariant-loop-argument : goal.invariant-loop-argument
invariant-loop-argument l = repeats_after (map folded l.names) (taken_outputs (map view_argument (drop l.argument-index l.arguments))) ≡ repeats (taken_outputs (map view_argument l.arguments))
