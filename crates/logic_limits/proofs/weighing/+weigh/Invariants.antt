use Rattle.std.proofs.Common.{◌≡◌, ◌+◌, ◌≤◌, min, drop}
use Rattle.st_tree.specs.View.{view_body, view_branches, view_choices}
use Rattle.logic_limits.specs.Measures.{joined, last_of}
use Rattle.logic_limits.specs.Weighed.{body_weight, branches_weight, choices_weight}
use Rattle.logic_limits.proofs.weighing.+weigh.Given as goal

-- what is weighed, and what is left to weigh, weigh what all does
abbrev pub invariant-weigh_body-loop-stmt : goal.invariant-weigh_body-loop-stmt
invariant-weigh_body-loop-stmt l =
    (min (l.total + body_weight l.scale (view_body (drop l.stmt-index l.body))) (last_of l.scale.measure) ≡ min (body_weight l.scale (view_body l.body)) (last_of l.scale.measure)) × (l.total ≤ last_of l.scale.measure)

abbrev pub invariant-weigh_branches-loop-branch : goal.invariant-weigh_branches-loop-branch
invariant-weigh_branches-loop-branch l =
    (min (joined l.scale.measure l.total (branches_weight l.scale (view_branches (drop l.branch-index l.branches)))) (last_of l.scale.measure) ≡ min (branches_weight l.scale (view_branches l.branches)) (last_of l.scale.measure)) × (l.total ≤ last_of l.scale.measure)

abbrev pub invariant-weigh_choices-loop-choice : goal.invariant-weigh_choices-loop-choice
invariant-weigh_choices-loop-choice l =
    (min (joined l.scale.measure l.total (choices_weight l.scale (view_choices (drop l.choice-index l.choices)))) (last_of l.scale.measure) ≡ min (choices_weight l.scale (view_choices l.choices)) (last_of l.scale.measure)) × (l.total ≤ last_of l.scale.measure)
