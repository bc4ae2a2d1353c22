use Rattle.std.proofs.Common.{◌≡◌, ap, sym, subst, ◌∙◌, arith, IfOk}
use Rattle.std.proofs.lemmas.List.{at_drop_all}
use denote.Param.Weighed.{most, at_most}
use Rattle.st_tree.specs.View.{view_body, view_branches, view_choices}
use Rattle.st_tree.specs.declared.tree.Stmt.{size-Stmt}
use Rattle.st_tree.specs.declared.tree.Branch.{size-Branch, size_is-Branch}
use Rattle.st_tree.specs.declared.tree.Choice.{size-Choice, size_is-Choice}
use Rattle.st_tree.specs.Every.{every, every_branch, every_choice}
use Rattle.st_tree.proofs.Depth.{size-If, size-Case, size-For}
use Rattle.st_tree.proofs.RuleLaws.{stmt_kept, stmt_broken, inside_broken, branch_kept, branch_broken, choice_kept, choice_broken, inside-If, inside-Case, inside-For}
use Rattle.st_tree.proofs.rules.+every.Goals as goal

pub every-loop-stmt-preserved : goal.every-loop-stmt-preserved
every-loop-stmt-preserved g t c =
    stmt_kept (g.R.Rule.rule c.args.rule.now) _ _ _ c.loop-stmt-test.true c.stmt-item.is (sym c.in_ok-keeps.ensures ∙ c.if-not-branch.false) (sym c.in_ok-every_inside.ensures ∙ c.if-not-branch-2.false)
    c.loop-stmt.invariant

pub every_branch-every-requires : goal.every_branch-every-requires
every_branch-every-requires g t c κs within =
    let size = size-Branch g.row.V.Denot in
    let deep = at_most size c.args.branches.now c.loop-branch.branch-index c.branch-item.result c.loop-branch-test.true in
    let same = ap size c.branch-item.is in
    let whole = size_is-Branch g.row.V.Denot c.branch-item.result in
    let part = ap (most (size-Stmt g.row.V.Denot)) c.deref.ensures.value in
    (omega arith, within)

pub every_branch-returns-then-not-branch : goal.every_branch-returns-then-not-branch
every_branch-returns-then-not-branch g t c =
    let rule = g.R.Rule.rule c.args.rule.now in
    let kept = c.in_ok-every.ensures ∙ ap (λ b. every rule (view_body b)) c.deref.ensures.value in
    branch_broken rule _ _ _ c.loop-branch-test.true c.branch-item.is (sym kept ∙ c.if-not-branch.true) c.loop-branch.invariant

pub every_branch-loop-branch-preserved : goal.every_branch-loop-branch-preserved
every_branch-loop-branch-preserved g t c =
    let rule = g.R.Rule.rule c.args.rule.now in
    let kept = c.in_ok-every.ensures ∙ ap (λ b. every rule (view_body b)) c.deref.ensures.value in
    branch_kept rule _ _ _ c.loop-branch-test.true c.branch-item.is (sym kept ∙ c.if-not-branch.false) c.loop-branch.invariant

pub every_choice-every-requires : goal.every_choice-every-requires
every_choice-every-requires g t c κs within =
    let size = size-Choice g.row.V.Denot in
    let deep = at_most size c.args.choices.now c.loop-choice.choice-index c.choice-item.result c.loop-choice-test.true in
    let same = ap size c.choice-item.is in
    let whole = size_is-Choice g.row.V.Denot c.choice-item.result in
    let part = ap (most (size-Stmt g.row.V.Denot)) c.deref.ensures.value in
    (omega arith, within)

pub every_choice-returns-then-not-branch : goal.every_choice-returns-then-not-branch
every_choice-returns-then-not-branch g t c =
    let rule = g.R.Rule.rule c.args.rule.now in
    let kept = c.in_ok-every.ensures ∙ ap (λ b. every rule (view_body b)) c.deref.ensures.value in
    choice_broken rule _ _ _ c.loop-choice-test.true c.choice-item.is (sym kept ∙ c.if-not-branch.true) c.loop-choice.invariant

pub every_choice-loop-choice-preserved : goal.every_choice-loop-choice-preserved
every_choice-loop-choice-preserved g t c =
    let rule = g.R.Rule.rule c.args.rule.now in
    let kept = c.in_ok-every.ensures ∙ ap (λ b. every rule (view_body b)) c.deref.ensures.value in
    choice_kept rule _ _ _ c.loop-choice-test.true c.choice-item.is (sym kept ∙ c.if-not-branch.false) c.loop-choice.invariant

pub every_inside-every_branch-requires : goal.every_inside-every_branch-requires
every_inside-every_branch-requires g t c κs within =
    let whole = ap (size-Stmt g.row.V.Denot) c.in-If.is ∙ size-If _ c.in-If.branches c.in-If.last in
    let part = ap (most (size-Branch g.row.V.Denot)) c.deref.ensures.value in
    (omega arith, within)

pub every_inside-every-requires : goal.every_inside-every-requires
every_inside-every-requires g t c κs within =
    let whole = ap (size-Stmt g.row.V.Denot) c.in-If.is ∙ size-If _ c.in-If.branches c.in-If.last in
    let part = ap (most (size-Stmt g.row.V.Denot)) c.deref-in-If.ensures.value in
    (omega arith, within)

pub every_inside-every_choice-requires : goal.every_inside-every_choice-requires
every_inside-every_choice-requires g t c κs within =
    let whole = ap (size-Stmt g.row.V.Denot) c.in-Case.is ∙ size-Case _ _ c.in-Case.choices c.in-Case.last in
    let part = ap (most (size-Choice g.row.V.Denot)) c.deref-in-Case.ensures.value in
    (omega arith, within)

pub every_inside-every-requires-in-Case : goal.every_inside-every-requires-in-Case
every_inside-every-requires-in-Case g t c κs within =
    let whole = ap (size-Stmt g.row.V.Denot) c.in-Case.is ∙ size-Case _ _ c.in-Case.choices c.in-Case.last in
    let part = ap (most (size-Stmt g.row.V.Denot)) c.deref-in-Case-2.ensures.value in
    (omega arith, within)

pub every_inside-returns-else-not-branch : goal.every_inside-returns-else-not-branch
every_inside-returns-else-not-branch g t c =
    let rule = g.R.Rule.rule c.args.rule.now in
    let kept = c.in_ok-every_branch-in-If.ensures ∙ ap (λ b. every_branch rule (view_branches b)) c.deref.ensures.value in
    let same = ap (λ b. every rule (view_body b)) c.deref-in-If.ensures.value ∙ inside-If rule c.in-If.field-0 c.in-If.branches c.in-If.last c.args.stmt.now c.in-If.is (sym kept ∙ c.if-not-branch.false) in
    subst (λ p. IfOk c.every.result (λ keep. keep ≡ p)) same c.every.ensures

pub every_inside-returns-else-not-branch-2 : goal.every_inside-returns-else-not-branch-2
every_inside-returns-else-not-branch-2 g t c =
    let rule = g.R.Rule.rule c.args.rule.now in
    let kept = c.in_ok-every_choice-in-Case.ensures ∙ ap (λ b. every_choice rule (view_choices b)) c.deref-in-Case.ensures.value in
    let same = ap (λ b. every rule (view_body b)) c.deref-in-Case-2.ensures.value
    ∙ inside-Case rule c.in-Case.field-0 c.in-Case.field-1 c.in-Case.choices c.in-Case.last c.args.stmt.now c.in-Case.is (sym kept ∙ c.if-not-branch-2.false) in
    subst (λ p. IfOk c.every-in-Case.result (λ keep. keep ≡ p)) same c.every-in-Case.ensures

pub every_inside-returns-in-For : goal.every_inside-returns-in-For
every_inside-returns-in-For g t c =
    let rule = g.R.Rule.rule c.args.rule.now in
    let same = ap (λ b. every rule (view_body b)) c.deref-in-For.ensures.value
    ∙ inside-For rule c.in-For.number c.in-For.variable c.in-For.from c.in-For.to c.in-For.by c.in-For.body c.args.stmt.now c.in-For.is in
    subst (λ p. IfOk c.every-in-For.result (λ keep. keep ≡ p)) same c.every-in-For.ensures

pub every-every_inside-requires : goal.every-every_inside-requires
every-every_inside-requires g t c κs within =
    let size = size-Stmt g.row.V.Denot in
    let deep = at_most size c.args.body.now c.loop-stmt.stmt-index c.stmt-item.result c.loop-stmt-test.true in
    let same = ap size c.stmt-item.is in
    (omega arith, within)

pub every_inside-every-requires-in-For : goal.every_inside-every-requires-in-For
every_inside-every-requires-in-For g t c κs within =
    let whole = ap (size-Stmt g.row.V.Denot) c.in-For.is ∙ size-For c.in-For.number c.in-For.variable c.in-For.from c.in-For.to c.in-For.by c.in-For.body in
    let part = ap (most (size-Stmt g.row.V.Denot)) c.deref-in-For.ensures.value in
    (omega arith, within)

pub every-returns-then-not-branch : goal.every-returns-then-not-branch
every-returns-then-not-branch g t c =
    stmt_broken (g.R.Rule.rule c.args.rule.now) _ _ _ c.loop-stmt-test.true c.stmt-item.is (sym c.in_ok-keeps.ensures ∙ c.if-not-branch.true) c.loop-stmt.invariant

pub every-returns-then-not-branch-2 : goal.every-returns-then-not-branch-2
every-returns-then-not-branch-2 g t c =
    inside_broken (g.R.Rule.rule c.args.rule.now) _ _ _ c.loop-stmt-test.true c.stmt-item.is (sym c.in_ok-keeps.ensures ∙ c.if-not-branch.false) (sym c.in_ok-every_inside.ensures ∙ c.if-not-branch-2.true)
    c.loop-stmt.invariant

pub every-returns : goal.every-returns
every-returns g t c =
    let rule = g.R.Rule.rule c.args.rule.now in
    sym (at_drop_all (λ l. every rule (view_body l)) c.args.body.now c.loop-stmt.stmt-index c.loop-stmt-test.false) ∙ c.loop-stmt.invariant

pub every_branch-returns : goal.every_branch-returns
every_branch-returns g t c =
    let rule = g.R.Rule.rule c.args.rule.now in
    sym (at_drop_all (λ l. every_branch rule (view_branches l)) c.args.branches.now c.loop-branch.branch-index c.loop-branch-test.false) ∙ c.loop-branch.invariant

pub every_choice-returns : goal.every_choice-returns
every_choice-returns g t c =
    let rule = g.R.Rule.rule c.args.rule.now in
    sym (at_drop_all (λ l. every_choice rule (view_choices l)) c.args.choices.now c.loop-choice.choice-index c.loop-choice-test.false) ∙ c.loop-choice.invariant
