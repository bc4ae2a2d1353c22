use Rattle.std.proofs.Common.{◌≡◌, drop, map}
use Rattle.st_tree.specs.View.{view_argument}
use Rattle.st_typing.specs.Constants.{outputs_assign}
use Rattle.st_typing.proofs.constants.outputs_assign.Given as goal

abbrev pub invariant-loop-argument : goal.invariant-loop-argument
invariant-loop-argument l = outputs_assign l.variable (map view_argument (drop l.argument-index l.arguments)) ≡ outputs_assign l.variable (map view_argument l.arguments)
