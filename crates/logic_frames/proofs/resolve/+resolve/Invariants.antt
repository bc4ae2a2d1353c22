use Rattle.std.proofs.Common.{◌+◌}
use Rattle.st_tree.specs.Numbers.{count_body, count_branches, count_choices}
use Rattle.st_tree.specs.View.{view_body, view_branches, view_choices}
use Rattle.logic_frames.specs.Scoped.{flat_body, flat_branches, flat_choices}
use Rattle.logic_frames.proofs.Joined.{Body, BranchesAre, ChoicesAre}
use Rattle.logic_frames.proofs.resolve.+resolve.Given as goal

-- what is resolved and what is to be resolved are the whole
abbrev pub invariant-resolve_body-loop-stmt : goal.invariant-resolve_body-loop-stmt
invariant-resolve_body-loop-stmt l =
    Body l.scope (flat_body l.scope l.initial.number (view_body l.body)) (l.initial.number + count_body (view_body l.body)) l.body l.stmt-index l.number l.resolved.items

abbrev pub invariant-resolve_branches-loop-branch : goal.invariant-resolve_branches-loop-branch
invariant-resolve_branches-loop-branch l =
    BranchesAre l.scope (flat_branches l.scope l.initial.number (view_branches l.branches)) (l.initial.number + count_branches (view_branches l.branches)) l.branches l.branch-index l.number l.resolved.items

abbrev pub invariant-resolve_choices-loop-choice : goal.invariant-resolve_choices-loop-choice
invariant-resolve_choices-loop-choice l =
    ChoicesAre l.scope (flat_choices l.scope l.initial.number (view_choices l.choices)) (l.initial.number + count_choices (view_choices l.choices)) l.choices l.choice-index l.number l.resolved.items
