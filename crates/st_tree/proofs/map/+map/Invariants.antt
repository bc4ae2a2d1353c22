use Rattle.std.proofs.Common.{◌≡◌, take, map}
use Rattle.st_tree.specs.View.{view_stmt, view_branch, view_choice}
use Rattle.st_tree.proofs.Mapped.{stmt_of, branch_of, choice_of}
use Rattle.st_tree.proofs.map.+map.Given as goal

-- the items so far are mapped
abbrev pub invariant-mapped_body-loop-stmt : goal.invariant-mapped_body-loop-stmt
invariant-mapped_body-loop-stmt g l = map view_stmt l.mapped.items ≡ map (stmt_of (g.P.Pass.mapping l.pass)) (take l.stmt-index l.body)

abbrev pub invariant-mapped_branches-loop-branch : goal.invariant-mapped_branches-loop-branch
invariant-mapped_branches-loop-branch g l = map view_branch l.mapped.items ≡ map (branch_of (g.P.Pass.mapping l.pass)) (take l.branch-index l.branches)

abbrev pub invariant-mapped_choices-loop-choice : goal.invariant-mapped_choices-loop-choice
invariant-mapped_choices-loop-choice g l = map view_choice l.mapped.items ≡ map (choice_of (g.P.Pass.mapping l.pass)) (take l.choice-index l.choices)
