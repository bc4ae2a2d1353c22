use Rattle.std.proofs.Common.{◌≡◌, drop}
use Rattle.st_tree.specs.View.{view_body, view_branches, view_choices}
use Rattle.st_tree.specs.Every.{every, every_branch, every_choice}
use Rattle.st_tree.proofs.rules.+every.Given as goal

-- the rule holds of the statements so far
abbrev pub invariant-every-loop-stmt : goal.invariant-every-loop-stmt
invariant-every-loop-stmt g l = every (g.R.Rule.rule l.rule) (view_body (drop l.stmt-index l.body)) ≡ every (g.R.Rule.rule l.rule) (view_body l.body)

abbrev pub invariant-every_branch-loop-branch : goal.invariant-every_branch-loop-branch
invariant-every_branch-loop-branch g l = every_branch (g.R.Rule.rule l.rule) (view_branches (drop l.branch-index l.branches)) ≡ every_branch (g.R.Rule.rule l.rule) (view_branches l.branches)

abbrev pub invariant-every_choice-loop-choice : goal.invariant-every_choice-loop-choice
invariant-every_choice-loop-choice g l = every_choice (g.R.Rule.rule l.rule) (view_choices (drop l.choice-index l.choices)) ≡ every_choice (g.R.Rule.rule l.rule) (view_choices l.choices)
