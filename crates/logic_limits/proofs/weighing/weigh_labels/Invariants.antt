use Rattle.std.proofs.Common.{◌≡◌, ◌+◌, ◌≤◌, min, drop}
use Rattle.st_tree.specs.View.{view_choices}
use Rattle.st_tree.specs.Costs.{labels_cost}
use Rattle.logic_limits.proofs.weighing.weigh_labels.Given as goal

abbrev pub invariant-loop-choice : goal.invariant-loop-choice
invariant-loop-choice l = (min (l.total + labels_cost (view_choices (drop l.choice-index l.choices))) l.last ≡ min (labels_cost (view_choices l.choices)) l.last) × (l.total ≤ l.last)
