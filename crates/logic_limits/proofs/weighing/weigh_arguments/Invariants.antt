use Rattle.std.proofs.Common.{◌≡◌, ◌+◌, ◌≤◌, min, drop, map}
use Rattle.st_tree.specs.View.{view_argument}
use Rattle.st_tree.specs.Costs.{arguments_cost}
use Rattle.logic_limits.proofs.weighing.weigh_arguments.Given as goal

abbrev pub invariant-loop-argument : goal.invariant-loop-argument
invariant-loop-argument l =
    (min (l.total + arguments_cost (map view_argument (drop l.argument-index l.arguments))) l.last ≡ min (arguments_cost (map view_argument l.arguments)) l.last) × (l.total ≤ l.last)
