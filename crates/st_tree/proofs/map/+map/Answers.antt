use Rattle.std.proofs.Common.{arith, ap, sym, ◌∙◌, map}
use Rattle.std.proofs.lemmas.List.{take_all}
use Rattle.std.proofs.lemmas.Grind.{common_steps}
use denote.Param.Weighed.{most, at_most}
use Rattle.st_tree.specs.Plain.{assign, call, if_else, case_of, for_to}
use Rattle.st_tree.specs.View.{view_argument, view_stmt, view_branch, view_choice, view_body, view_branches, view_choices, body_of, branches_of, choices_of}
use Rattle.st_tree.specs.declared.tree.Stmt.{size-Stmt}
use Rattle.st_tree.specs.declared.tree.Branch.{size-Branch, size_is-Branch}
use Rattle.st_tree.specs.declared.tree.Choice.{size-Choice, size_is-Choice}
use Rattle.st_tree.specs.Mapping.{mapped_argument, mapped_stmt, mapped_body, mapped_branches, mapped_choices}
use Rattle.st_tree.proofs.Views.{view_stmt-Empty, view_stmt-Assign, view_stmt-Call, view_stmt-If, view_stmt-Case, view_stmt-For, one_more, view_branch_is, view_branch_made, view_choice_is, view_choice_made}
use Rattle.st_tree.proofs.Depth.{size-If, size-Case, size-For}
use Rattle.st_tree.proofs.Mapped.{stmt_of, branch_of, choice_of, mapped_pair, mapped_labelled, body_whole, branches_whole, choices_whole}
use Rattle.st_tree.proofs.map.+map.Goals as goal

pub mapped_body-loop-stmt-preserved : goal.mapped_body-loop-stmt-preserved
mapped_body-loop-stmt-preserved g t c =
    one_more (stmt_of (g.P.Pass.mapping c.args.pass.now)) view_stmt _ _ _ _ _ _ c.loop-stmt-test.true c.stmt-item.is c.in_ok-push.ensures.items c.loop-stmt.invariant c.in_ok-mapped_stmt.ensures

pub mapped_body-mapped_stmt-requires : goal.mapped_body-mapped_stmt-requires
mapped_body-mapped_stmt-requires g t c κs within =
    let size = size-Stmt g.row.V.Denot in
    let deep = at_most size c.args.body.now c.loop-stmt.stmt-index c.stmt-item.result c.loop-stmt-test.true in
    let same = ap size c.stmt-item.is in
    (omega arith, within)

pub mapped_body-returns : goal.mapped_body-returns
mapped_body-returns g t c =
    let m = g.P.Pass.mapping c.args.pass.now in
    let all = take_all c.loop-stmt.stmt-index c.args.body.now c.loop-stmt-test.false in
    ap body_of (c.loop-stmt.invariant ∙ ap (map (stmt_of m)) all) ∙ body_whole m c.args.body.now

pub mapped_branches-returns : goal.mapped_branches-returns
mapped_branches-returns g t c =
    let m = g.P.Pass.mapping c.args.pass.now in
    let all = take_all c.loop-branch.branch-index c.args.branches.now c.loop-branch-test.false in
    ap branches_of (c.loop-branch.invariant ∙ ap (map (branch_of m)) all) ∙ branches_whole m c.args.branches.now

pub mapped_choices-returns : goal.mapped_choices-returns
mapped_choices-returns g t c =
    let m = g.P.Pass.mapping c.args.pass.now in
    let all = take_all c.loop-choice.choice-index c.args.choices.now c.loop-choice-test.false in
    ap choices_of (c.loop-choice.invariant ∙ ap (map (choice_of m)) all) ∙ choices_whole m c.args.choices.now

pub mapped_branches-mapped_body-requires : goal.mapped_branches-mapped_body-requires
mapped_branches-mapped_body-requires g t c κs within =
    let size = size-Branch g.row.V.Denot in
    let deep = at_most size c.args.branches.now c.loop-branch.branch-index c.branch-item.result c.loop-branch-test.true in
    let same = ap size c.branch-item.is in
    let whole = size_is-Branch g.row.V.Denot c.branch-item.result in
    let part = ap (most (size-Stmt g.row.V.Denot)) c.deref.ensures.value in
    (omega arith, within)

pub mapped_branches-loop-branch-preserved : goal.mapped_branches-loop-branch-preserved
mapped_branches-loop-branch-preserved g t c =
    let m = g.P.Pass.mapping c.args.pass.now in
    let body = c.in_ok-body.ensures ∙ ap (λ b. mapped_body m (view_body b)) c.deref.ensures.value in
    one_more (branch_of m) view_branch _ _ _ _ _ _ c.loop-branch-test.true c.branch-item.is c.in_ok-push.ensures.items c.loop-branch.invariant
    (view_branch_made c.in_ok-test.test c.in_ok-body.body ∙ (λ i. (c.in_ok-test.ensures i, body i)) ∙ ap (mapped_pair m) (sym (view_branch_is c.branch-item.result)))

pub mapped_choices-mapped_body-requires : goal.mapped_choices-mapped_body-requires
mapped_choices-mapped_body-requires g t c κs within =
    let size = size-Choice g.row.V.Denot in
    let deep = at_most size c.args.choices.now c.loop-choice.choice-index c.choice-item.result c.loop-choice-test.true in
    let same = ap size c.choice-item.is in
    let whole = size_is-Choice g.row.V.Denot c.choice-item.result in
    let part = ap (most (size-Stmt g.row.V.Denot)) c.deref-in-loop-choice.ensures.value in
    (omega arith, within)

pub mapped_choices-loop-choice-preserved : goal.mapped_choices-loop-choice-preserved
mapped_choices-loop-choice-preserved g t c =
    let m = g.P.Pass.mapping c.args.pass.now in
    let labels = c.in_ok-labels.ensures ∙ c.deref.ensures.value in
    let body = c.in_ok-body.ensures ∙ ap (λ b. mapped_body m (view_body b)) c.deref-in-loop-choice.ensures.value in
    one_more (choice_of m) view_choice _ _ _ _ _ _ c.loop-choice-test.true c.choice-item.is c.in_ok-push.ensures.items c.loop-choice.invariant
    (view_choice_made c.in_ok-labels.labels c.in_ok-body.body ∙ (λ i. (labels i, body i)) ∙ ap (mapped_labelled m) (sym (view_choice_is c.choice-item.result)))

pub mapped_stmt-mapped_branches-requires : goal.mapped_stmt-mapped_branches-requires
mapped_stmt-mapped_branches-requires g t c κs within =
    let size = size-Stmt g.row.V.Denot in
    let whole = ap size c.in-If.is ∙ size-If c.in-If.number c.in-If.branches c.in-If.last in
    let part = ap (most (size-Branch g.row.V.Denot)) c.deref-in-If.ensures.value in
    (omega arith, within)

pub mapped_stmt-mapped_body-requires : goal.mapped_stmt-mapped_body-requires
mapped_stmt-mapped_body-requires g t c κs within =
    let size = size-Stmt g.row.V.Denot in
    let whole = ap size c.in-If.is ∙ size-If c.in-If.number c.in-If.branches c.in-If.last in
    let part = ap (most size) c.deref-in-If-2.ensures.value in
    (omega arith, within)

pub mapped_stmt-mapped_choices-requires : goal.mapped_stmt-mapped_choices-requires
mapped_stmt-mapped_choices-requires g t c κs within =
    let size = size-Stmt g.row.V.Denot in
    let whole = ap size c.in-Case.is ∙ size-Case c.in-Case.number c.in-Case.selector c.in-Case.choices c.in-Case.last in
    let part = ap (most (size-Choice g.row.V.Denot)) c.deref-in-Case.ensures.value in
    (omega arith, within)

pub mapped_stmt-mapped_body-requires-in-Case : goal.mapped_stmt-mapped_body-requires-in-Case
mapped_stmt-mapped_body-requires-in-Case g t c κs within =
    let size = size-Stmt g.row.V.Denot in
    let whole = ap size c.in-Case.is ∙ size-Case c.in-Case.number c.in-Case.selector c.in-Case.choices c.in-Case.last in
    let part = ap (most size) c.deref-in-Case-2.ensures.value in
    (omega arith, within)

pub mapped_stmt-mapped_body-requires-in-For : goal.mapped_stmt-mapped_body-requires-in-For
mapped_stmt-mapped_body-requires-in-For g t c κs within =
    let size = size-Stmt g.row.V.Denot in
    let whole = ap size c.in-For.is ∙ size-For c.in-For.number c.in-For.variable c.in-For.from c.in-For.to c.in-For.by c.in-For.body in
    let part = ap (most size) c.deref-in-For.ensures.value in
    (omega arith, within)

pub mapped_stmt-returns-in_ok-mapped_arguments-in-Call : goal.mapped_stmt-returns-in_ok-mapped_arguments-in-Call
mapped_stmt-returns-in_ok-mapped_arguments-in-Call g t c =
    let m = g.P.Pass.mapping c.args.pass.now in
    let own = c.in_ok-own-in-Call.ensures in
    let arguments = c.in_ok-mapped_arguments-in-Call.ensures ∙ ap (λ a. map (mapped_argument m c.in-Call.instance) (map view_argument a)) c.deref.ensures.value in
    view_stmt-Call _ _ _ ∙ (λ i. call c.in-Call.number (own i) (arguments i)) ∙ ap (mapped_stmt m) (sym (view_stmt-Call _ _ _) ∙ ap view_stmt (sym c.in-Call.is))

pub mapped_stmt-returns-in-Ok : goal.mapped_stmt-returns-in-Ok
mapped_stmt-returns-in-Ok g t c =
    let m = g.P.Pass.mapping c.args.pass.now in
    let branches = c.in_ok-branches-in-If.ensures ∙ ap (λ b. mapped_branches m (view_branches b)) c.deref-in-If.ensures.value in
    let last = c.in-Ok.ensures ∙ ap (λ b. mapped_body m (view_body b)) c.deref-in-If-2.ensures.value in
    view_stmt-If _ _ _ ∙ (λ i. if_else c.in-If.number (branches i) (last i)) ∙ ap (mapped_stmt m) (sym (view_stmt-If _ _ _) ∙ ap view_stmt (sym c.in-If.is))

pub mapped_stmt-returns-in-Ok-mapped_body : goal.mapped_stmt-returns-in-Ok-mapped_body
mapped_stmt-returns-in-Ok-mapped_body g t c =
    let m = g.P.Pass.mapping c.args.pass.now in
    let selector = c.in_ok-selector-in-Case.ensures in
    let choices = c.in-Ok-mapped_choices.ensures ∙ ap (λ b. mapped_choices m (view_choices b)) c.deref-in-Case.ensures.value in
    let last = c.in-Ok-mapped_body.ensures ∙ ap (λ b. mapped_body m (view_body b)) c.deref-in-Case-2.ensures.value in
    view_stmt-Case _ _ _ _ ∙ (λ i. case_of c.in-Case.number (selector i) (choices i) (last i)) ∙ ap (mapped_stmt m) (sym (view_stmt-Case _ _ _ _) ∙ ap view_stmt (sym c.in-Case.is))

pub mapped_stmt-returns-in-Ok-mapped_body-2 : goal.mapped_stmt-returns-in-Ok-mapped_body-2
mapped_stmt-returns-in-Ok-mapped_body-2 g t c =
    let m = g.P.Pass.mapping c.args.pass.now in
    let variable = c.in_ok-variable-in-For.ensures in
    let bounds = c.in_ok-bounds-in-For.ensures in
    let body = c.in-Ok-mapped_body-2.ensures ∙ ap (λ b. mapped_body m (view_body b)) c.deref-in-For.ensures.value in
    c.for_of.ensures ∙ (λ i. for_to c.in-For.number (variable i) (bounds.from i) (bounds.to i) (bounds.by i) (body i)) ∙ ap (mapped_stmt m) (sym (view_stmt-For _ _ _ _ _ _) ∙ ap view_stmt (sym c.in-For.is))

pub mapped_stmt-returns-in_ok-mapped_expr-in-Assign : goal.mapped_stmt-returns-in_ok-mapped_expr-in-Assign
mapped_stmt-returns-in_ok-mapped_expr-in-Assign g t c =
    let m = g.P.Pass.mapping c.args.pass.now in
    view_stmt-Assign _ _ _ ∙ (λ i. assign c.in-Assign.number (c.in_ok-variable-in-Assign.ensures i) (c.in_ok-mapped_expr-in-Assign.ensures i)) ∙ ap (mapped_stmt m) (sym (view_stmt-Assign _ _ _) ∙ ap view_stmt (sym c.in-Assign.is))

pub mapped_stmt-returns-in-Empty : goal.mapped_stmt-returns-in-Empty
mapped_stmt-returns-in-Empty g t c = let m = g.P.Pass.mapping c.args.pass.now in view_stmt-Empty _ ∙ ap (mapped_stmt m) (sym (view_stmt-Empty _) ∙ ap view_stmt (sym c.in-Empty.is))

pub mapped_body-bounds-body-stmt-index : goal.mapped_body-bounds-body-stmt-index
mapped_body-bounds-body-stmt-index g t c = grind (arith, common_steps)

pub mapped_body-offset_bounds-body-stmt-index : goal.mapped_body-offset_bounds-body-stmt-index
mapped_body-offset_bounds-body-stmt-index g t c = grind (arith, common_steps)

pub mapped_branches-loop-branch-init : goal.mapped_branches-loop-branch-init
mapped_branches-loop-branch-init g t c = grind (arith, common_steps)

pub mapped_choices-loop-choice-init : goal.mapped_choices-loop-choice-init
mapped_choices-loop-choice-init g t c = grind (arith, common_steps)

pub mapped_body-loop-stmt-init : goal.mapped_body-loop-stmt-init
mapped_body-loop-stmt-init g t c = grind (arith, common_steps)
