use Rattle.std.proofs.Common.{◌≡◌, ◌+◌, drop}
use Rattle.st_tree.specs.View.{view_body, view_branches, view_choices}
use Rattle.vm_sizes.specs.Sizes as sizes
use Rattle.vm_sizes.specs.Counts.{lines_at}
use Rattle.vm_sizes.proofs.lines.+lines.Given as goal

-- what is counted, and what is left to count, is all
abbrev pub invariant-body_lines-loop-stmt : goal.invariant-body_lines-loop-stmt
invariant-body_lines-loop-stmt l = l.total + sizes.body_lines l.seats (lines_at l.table) (view_body (drop l.stmt-index l.body)) ≡ sizes.body_lines l.seats (lines_at l.table) (view_body l.body)

abbrev pub invariant-branches_lines-loop-branch : goal.invariant-branches_lines-loop-branch
invariant-branches_lines-loop-branch l =
    l.total + sizes.branches_lines l.seats (lines_at l.table) (view_branches (drop l.branch-index l.branches)) l.last ≡ sizes.branches_lines l.seats (lines_at l.table) (view_branches l.branches) l.last

abbrev pub invariant-choices_lines-loop-choice : goal.invariant-choices_lines-loop-choice
invariant-choices_lines-loop-choice l =
    l.total + sizes.choices_lines l.seats (lines_at l.table) (view_choices (drop l.choice-index l.choices)) l.last ≡ sizes.choices_lines l.seats (lines_at l.table) (view_choices l.choices) l.last
