use Rattle.std.proofs.Common.{◌∙◌, ap, arith, ℕ, ◌≡◌, ◌+◌, ◌<◌, length, drop}
use Rattle.std.proofs.lemmas.Grind.{common_steps}
use denote.Param.Weighed.{most, at_most}
use Rattle.st_tree.specs.declared.tree.Stmt.{size-Stmt}
use Rattle.st_tree.specs.View.{view_body, view_branches, view_choices}
use Rattle.st_tree.proofs.Depth.{size-If, size-Case}
use Rattle.vm_sizes.specs.Sizes as sizes
use Rattle.vm_sizes.specs.Counts.{lines_at}
use Rattle.vm_sizes.proofs.Few.{behind_branches, behind_choices, long_if, long_case, body_at, branch_whole, choice_whole}
use Rattle.st_tree.specs.declared.tree.Branch.{size-Branch, size_is-Branch}
use Rattle.st_tree.specs.declared.tree.Choice.{size-Choice, size_is-Choice}
use Rattle.vm_sizes.proofs.lines.+lines.Goals as goal

pub stmt_lines-body_lines-otherwise-requires : goal.stmt_lines-body_lines-otherwise-requires
stmt_lines-body_lines-otherwise-requires t c =
    let seats = c.args.seats.now in
    let inner = lines_at c.args.table.now in
    let size = ap (size-Stmt ℕ) c.in-If.is ∙ size-If c.in-If.field-0 c.in-If.branches c.in-If.last in
    let same = ap (most (size-Stmt ℕ)) c.deref-in-If.ensures.value in
    let whole = long_if seats inner c.args.stmt.now c.in-If.field-0 c.in-If.branches c.in-If.last c.in-If.is in
    let few = behind_branches seats inner (view_branches c.in-If.branches.items) (sizes.body_lines seats inner (view_body c.in-If.last.items)) in
    let last = ap (λ b. sizes.body_lines seats inner (view_body b)) c.deref-in-If.ensures.value in
    (omega (arith, size, same), omega (arith, whole, few, last, c.requires))

pub stmt_lines-body_lines-otherwise-requires-in-Case : goal.stmt_lines-body_lines-otherwise-requires-in-Case
stmt_lines-body_lines-otherwise-requires-in-Case t c =
    let seats = c.args.seats.now in
    let inner = lines_at c.args.table.now in
    let size = ap (size-Stmt ℕ) c.in-Case.is ∙ size-Case c.in-Case.field-0 c.in-Case.selector c.in-Case.choices c.in-Case.last in
    let same = ap (most (size-Stmt ℕ)) c.deref-in-Case.ensures.value in
    let whole = long_case seats inner c.args.stmt.now c.in-Case.field-0 c.in-Case.selector c.in-Case.choices c.in-Case.last c.in-Case.is in
    let few = behind_choices seats inner (view_choices c.in-Case.choices.items) (sizes.body_lines seats inner (view_body c.in-Case.last.items)) in
    let last = ap (λ b. sizes.body_lines seats inner (view_body b)) c.deref-in-Case.ensures.value in
    (omega (arith, size, same), omega (arith, whole, few, last, c.requires))

pub body_lines-loop-stmt-preserved : goal.body_lines-loop-stmt-preserved
body_lines-loop-stmt-preserved t c = grind (arith, common_steps)

pub branches_lines-overflow_add-result : goal.branches_lines-overflow_add-result
branches_lines-overflow_add-result t c = grind (arith, common_steps)

pub choices_lines-overflow_add-result : goal.choices_lines-overflow_add-result
choices_lines-overflow_add-result t c = grind (arith, common_steps)

pub body_lines-overflow_add-total : goal.body_lines-overflow_add-total
body_lines-overflow_add-total t c = grind (arith, common_steps)

pub branches_lines-returns : goal.branches_lines-returns
branches_lines-returns t c = grind (arith, common_steps)

pub choices_lines-returns : goal.choices_lines-returns
choices_lines-returns t c = grind (arith, common_steps)

pub body_lines-returns : goal.body_lines-returns
body_lines-returns t c = grind (arith, common_steps)

pub branches_lines-expr_lines-test-requires : goal.branches_lines-expr_lines-test-requires
branches_lines-expr_lines-test-requires t c =
    let whole = branch_whole c.args.seats.now (lines_at c.args.table.now) c.args.branches.now c.loop-branch.branch-index c.args.last c.branch-item.result c.loop-branch-test.true c.branch-item.is in
    let all : c.loop-branch.total + sizes.branches_lines c.args.seats.now (lines_at c.args.table.now) (view_branches (drop c.loop-branch.branch-index c.args.branches.now)) c.args.last ≡ sizes.branches_lines c.args.seats.now (lines_at c.args.table.now) (view_branches c.args.branches.now) c.args.last = c.loop-branch.invariant in
    omega (arith, whole, all, c.requires)

pub branches_lines-overflow_add-total : goal.branches_lines-overflow_add-total
branches_lines-overflow_add-total t c =
    let whole = branch_whole c.args.seats.now (lines_at c.args.table.now) c.args.branches.now c.loop-branch.branch-index c.args.last c.branch-item.result c.loop-branch-test.true c.branch-item.is in
    let all : c.loop-branch.total + sizes.branches_lines c.args.seats.now (lines_at c.args.table.now) (view_branches (drop c.loop-branch.branch-index c.args.branches.now)) c.args.last ≡ sizes.branches_lines c.args.seats.now (lines_at c.args.table.now) (view_branches c.args.branches.now) c.args.last = c.loop-branch.invariant in
    let part = ap (λ b. sizes.body_lines c.args.seats.now (lines_at c.args.table.now) (view_body b)) c.deref.ensures.value in
    omega (arith, whole, all, part, c.requires, c.expr_lines-test.ensures, c.body_lines.ensures)

pub branches_lines-overflow_add-total-in-loop-branch : goal.branches_lines-overflow_add-total-in-loop-branch
branches_lines-overflow_add-total-in-loop-branch t c =
    let whole = branch_whole c.args.seats.now (lines_at c.args.table.now) c.args.branches.now c.loop-branch.branch-index c.args.last c.branch-item.result c.loop-branch-test.true c.branch-item.is in
    let all : c.loop-branch.total + sizes.branches_lines c.args.seats.now (lines_at c.args.table.now) (view_branches (drop c.loop-branch.branch-index c.args.branches.now)) c.args.last ≡ sizes.branches_lines c.args.seats.now (lines_at c.args.table.now) (view_branches c.args.branches.now) c.args.last = c.loop-branch.invariant in
    let part = ap (λ b. sizes.body_lines c.args.seats.now (lines_at c.args.table.now) (view_body b)) c.deref.ensures.value in
    omega (arith, whole, all, part, c.requires, c.expr_lines-test.ensures, c.body_lines.ensures)

pub branches_lines-overflow_add-total-in-loop-branch-2 : goal.branches_lines-overflow_add-total-in-loop-branch-2
branches_lines-overflow_add-total-in-loop-branch-2 t c =
    let whole = branch_whole c.args.seats.now (lines_at c.args.table.now) c.args.branches.now c.loop-branch.branch-index c.args.last c.branch-item.result c.loop-branch-test.true c.branch-item.is in
    let all : c.loop-branch.total + sizes.branches_lines c.args.seats.now (lines_at c.args.table.now) (view_branches (drop c.loop-branch.branch-index c.args.branches.now)) c.args.last ≡ sizes.branches_lines c.args.seats.now (lines_at c.args.table.now) (view_branches c.args.branches.now) c.args.last = c.loop-branch.invariant in
    let part = ap (λ b. sizes.body_lines c.args.seats.now (lines_at c.args.table.now) (view_body b)) c.deref.ensures.value in
    omega (arith, whole, all, part, c.requires, c.expr_lines-test.ensures, c.body_lines.ensures)

pub branches_lines-loop-branch-preserved : goal.branches_lines-loop-branch-preserved
branches_lines-loop-branch-preserved t c =
    let whole = branch_whole c.args.seats.now (lines_at c.args.table.now) c.args.branches.now c.loop-branch.branch-index c.args.last c.branch-item.result c.loop-branch-test.true c.branch-item.is in
    let all : c.loop-branch.total + sizes.branches_lines c.args.seats.now (lines_at c.args.table.now) (view_branches (drop c.loop-branch.branch-index c.args.branches.now)) c.args.last ≡ sizes.branches_lines c.args.seats.now (lines_at c.args.table.now) (view_branches c.args.branches.now) c.args.last = c.loop-branch.invariant in
    let part = ap (λ b. sizes.body_lines c.args.seats.now (lines_at c.args.table.now) (view_body b)) c.deref.ensures.value in
    omega (arith, whole, all, part, c.expr_lines-test.ensures, c.body_lines.ensures)

pub branches_lines-body_lines-requires : goal.branches_lines-body_lines-requires
branches_lines-body_lines-requires t c =
    let whole = branch_whole c.args.seats.now (lines_at c.args.table.now) c.args.branches.now c.loop-branch.branch-index c.args.last c.branch-item.result c.loop-branch-test.true c.branch-item.is in
    let all : c.loop-branch.total + sizes.branches_lines c.args.seats.now (lines_at c.args.table.now) (view_branches (drop c.loop-branch.branch-index c.args.branches.now)) c.args.last ≡ sizes.branches_lines c.args.seats.now (lines_at c.args.table.now) (view_branches c.args.branches.now) c.args.last = c.loop-branch.invariant in
    let part = ap (λ b. sizes.body_lines c.args.seats.now (lines_at c.args.table.now) (view_body b)) c.deref.ensures.value in
    let deep = at_most (size-Branch ℕ) c.args.branches.now c.loop-branch.branch-index c.branch-item.result c.loop-branch-test.true in
    let same = ap (size-Branch ℕ) c.branch-item.is in
    let sized = size_is-Branch ℕ c.branch-item.result in
    let inside = ap (most (size-Stmt ℕ)) c.deref.ensures.value in
    (omega (arith, deep, same, sized, inside), omega (arith, whole, all, part, c.requires))

pub choices_lines-overflow_cast-labels : goal.choices_lines-overflow_cast-labels
choices_lines-overflow_cast-labels t c =
    let some : 0 < length c.choice-item.result.labels.items = grind (arith, common_steps) in
    let whole = choice_whole c.args.seats.now (lines_at c.args.table.now) c.args.choices.now c.loop-choice.choice-index c.args.last c.choice-item.result c.loop-choice-test.true c.choice-item.is some in
    let all : c.loop-choice.total + sizes.choices_lines c.args.seats.now (lines_at c.args.table.now) (view_choices (drop c.loop-choice.choice-index c.args.choices.now)) c.args.last ≡ sizes.choices_lines c.args.seats.now (lines_at c.args.table.now) (view_choices c.args.choices.now) c.args.last = c.loop-choice.invariant in
    omega (arith, whole, all, c.requires, c.len-labels.ensures)

pub choices_lines-overflow_add-total : goal.choices_lines-overflow_add-total
choices_lines-overflow_add-total t c =
    let some : 0 < length c.choice-item.result.labels.items = grind (arith, common_steps) in
    let whole = choice_whole c.args.seats.now (lines_at c.args.table.now) c.args.choices.now c.loop-choice.choice-index c.args.last c.choice-item.result c.loop-choice-test.true c.choice-item.is some in
    let all : c.loop-choice.total + sizes.choices_lines c.args.seats.now (lines_at c.args.table.now) (view_choices (drop c.loop-choice.choice-index c.args.choices.now)) c.args.last ≡ sizes.choices_lines c.args.seats.now (lines_at c.args.table.now) (view_choices c.args.choices.now) c.args.last = c.loop-choice.invariant in
    let part = ap (λ b. sizes.body_lines c.args.seats.now (lines_at c.args.table.now) (view_body b)) c.deref.ensures.value in
    omega (arith, whole, all, part, c.requires, c.len-labels.ensures, c.body_lines.ensures)

pub choices_lines-overflow_add-total-then-not-is_empty : goal.choices_lines-overflow_add-total-then-not-is_empty
choices_lines-overflow_add-total-then-not-is_empty t c =
    let some : 0 < length c.choice-item.result.labels.items = grind (arith, common_steps) in
    let whole = choice_whole c.args.seats.now (lines_at c.args.table.now) c.args.choices.now c.loop-choice.choice-index c.args.last c.choice-item.result c.loop-choice-test.true c.choice-item.is some in
    let all : c.loop-choice.total + sizes.choices_lines c.args.seats.now (lines_at c.args.table.now) (view_choices (drop c.loop-choice.choice-index c.args.choices.now)) c.args.last ≡ sizes.choices_lines c.args.seats.now (lines_at c.args.table.now) (view_choices c.args.choices.now) c.args.last = c.loop-choice.invariant in
    let part = ap (λ b. sizes.body_lines c.args.seats.now (lines_at c.args.table.now) (view_body b)) c.deref.ensures.value in
    omega (arith, whole, all, part, c.requires, c.len-labels.ensures, c.body_lines.ensures)

pub choices_lines-overflow_add-total-then-not-is_empty-2 : goal.choices_lines-overflow_add-total-then-not-is_empty-2
choices_lines-overflow_add-total-then-not-is_empty-2 t c =
    let some : 0 < length c.choice-item.result.labels.items = grind (arith, common_steps) in
    let whole = choice_whole c.args.seats.now (lines_at c.args.table.now) c.args.choices.now c.loop-choice.choice-index c.args.last c.choice-item.result c.loop-choice-test.true c.choice-item.is some in
    let all : c.loop-choice.total + sizes.choices_lines c.args.seats.now (lines_at c.args.table.now) (view_choices (drop c.loop-choice.choice-index c.args.choices.now)) c.args.last ≡ sizes.choices_lines c.args.seats.now (lines_at c.args.table.now) (view_choices c.args.choices.now) c.args.last = c.loop-choice.invariant in
    let part = ap (λ b. sizes.body_lines c.args.seats.now (lines_at c.args.table.now) (view_body b)) c.deref.ensures.value in
    omega (arith, whole, all, part, c.requires, c.len-labels.ensures, c.body_lines.ensures)

pub choices_lines-body_lines-requires : goal.choices_lines-body_lines-requires
choices_lines-body_lines-requires t c =
    let some : 0 < length c.choice-item.result.labels.items = grind (arith, common_steps) in
    let whole = choice_whole c.args.seats.now (lines_at c.args.table.now) c.args.choices.now c.loop-choice.choice-index c.args.last c.choice-item.result c.loop-choice-test.true c.choice-item.is some in
    let all : c.loop-choice.total + sizes.choices_lines c.args.seats.now (lines_at c.args.table.now) (view_choices (drop c.loop-choice.choice-index c.args.choices.now)) c.args.last ≡ sizes.choices_lines c.args.seats.now (lines_at c.args.table.now) (view_choices c.args.choices.now) c.args.last = c.loop-choice.invariant in
    let part = ap (λ b. sizes.body_lines c.args.seats.now (lines_at c.args.table.now) (view_body b)) c.deref.ensures.value in
    let deep = at_most (size-Choice ℕ) c.args.choices.now c.loop-choice.choice-index c.choice-item.result c.loop-choice-test.true in
    let same = ap (size-Choice ℕ) c.choice-item.is in
    let sized = size_is-Choice ℕ c.choice-item.result in
    let inside = ap (most (size-Stmt ℕ)) c.deref.ensures.value in
    (omega (arith, deep, same, sized, inside), omega (arith, whole, all, part, c.requires))

pub body_lines-stmt_lines-total-requires : goal.body_lines-stmt_lines-total-requires
body_lines-stmt_lines-total-requires t c =
    let whole = body_at c.args.seats.now (lines_at c.args.table.now) c.args.body.now c.loop-stmt.stmt-index c.stmt-item.result c.loop-stmt-test.true c.stmt-item.is in
    let all : c.loop-stmt.total + sizes.body_lines c.args.seats.now (lines_at c.args.table.now) (view_body (drop c.loop-stmt.stmt-index c.args.body.now)) ≡ sizes.body_lines c.args.seats.now (lines_at c.args.table.now) (view_body c.args.body.now) = c.loop-stmt.invariant in
    let deep = at_most (size-Stmt ℕ) c.args.body.now c.loop-stmt.stmt-index c.stmt-item.result c.loop-stmt-test.true in
    let same = ap (size-Stmt ℕ) c.stmt-item.is in
    (omega (arith, deep, same), omega (arith, whole, all, c.requires))
