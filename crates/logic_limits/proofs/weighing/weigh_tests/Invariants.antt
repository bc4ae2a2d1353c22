use Rattle.std.proofs.Common.{◌≡◌, ◌+◌, ◌≤◌, min, drop}
use Rattle.st_tree.specs.View.{view_branches}
use Rattle.st_tree.specs.Costs.{tests_cost}
use Rattle.logic_limits.proofs.weighing.weigh_tests.Given as goal

abbrev pub invariant-loop-branch : goal.invariant-loop-branch
invariant-loop-branch l = (min (l.total + tests_cost (view_branches (drop l.branch-index l.branches))) l.last ≡ min (tests_cost (view_branches l.branches)) l.last) × (l.total ≤ l.last)
