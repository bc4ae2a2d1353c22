use Rattle.std.proofs.Common.{drop}
use Rattle.st_tree.specs.View.{view_body, view_branches, view_choices}
use Rattle.logic_source.specs.Paths.{called_in, called_in_branches, called_in_choices}
use Rattle.logic_seats.proofs.Gathered.{Left}
use Rattle.logic_seats.proofs.called.+calls.Given as goal

-- the names so far, and those of what is left, are all
abbrev pub invariant-add_body-loop-stmt : goal.invariant-add_body-loop-stmt
invariant-add_body-loop-stmt l = Left l.names (called_in (view_body (drop l.stmt-index l.body))) (called_in (view_body l.body)) l.initial.names

abbrev pub invariant-add_branches-loop-branch : goal.invariant-add_branches-loop-branch
invariant-add_branches-loop-branch l = Left l.names (called_in_branches (view_branches (drop l.branch-index l.branches))) (called_in_branches (view_branches l.branches)) l.initial.names

abbrev pub invariant-add_choices-loop-choice : goal.invariant-add_choices-loop-choice
invariant-add_choices-loop-choice l = Left l.names (called_in_choices (view_choices (drop l.choice-index l.choices))) (called_in_choices (view_choices l.choices)) l.initial.names
