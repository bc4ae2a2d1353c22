use Rattle.std.proofs.Common.{◌∙◌, ap, sym, ◌+◌, min, arith}
use Rattle.std.proofs.lemmas.Grind.{common_steps}
use Rattle.st_tree.specs.View.{view_expr, view_stmt, view_body, view_choices}
use Rattle.st_tree.specs.Costs.{expr_cost, labels_cost}
use Rattle.st_tree.proofs.Views.{view_stmt-Case}
use Rattle.logic_limits.specs.Measures.{last_of}
use Rattle.logic_limits.specs.Weighed.{body_weight, stmt_weight, choices_weight}
use Rattle.logic_limits.proofs.Capping.{around}
use Rattle.logic_limits.proofs.weighing.+weigh.Goals as goal

pub weigh_stmt-returns-in-Case : goal.weigh_stmt-returns-in-Case
weigh_stmt-returns-in-Case t c =
    let scale = c.args.scale.now in
    let stop = last_of scale.measure in
    let choices = c.in-Case.choices in
    let last_body = c.in-Case.last_body in
    let selected = c.weigh_selection-selected.ensures ∙ ap (λ xs. min (1 + expr_cost (view_expr c.in-Case.selector) + labels_cost (view_choices xs)) c.last-last.result) c.deref-in-Case.ensures.value in
    let inside = c.weigh_choices-inside.ensures ∙ ap (λ xs. min (choices_weight scale (view_choices xs)) stop) c.deref-in-Case-2.ensures.value in
    let otherwise = c.weigh_body-otherwise-in-Case.ensures ∙ ap (λ xs. min (body_weight scale (view_body xs)) stop) c.deref-in-Case-3.ensures.value in
    let same = ap (λ s. stmt_weight scale (view_stmt s)) c.in-Case.is ∙ ap (stmt_weight scale) (view_stmt-Case c.in-Case.field-0 c.in-Case.selector choices last_body) in
    around scale.measure stop c.last-last.result (1 + expr_cost (view_expr c.in-Case.selector) + labels_cost (view_choices choices.items)) (choices_weight scale (view_choices choices.items)) (body_weight scale (view_body last_body.items))
    c.weigh_selection-selected.result c.weigh_choices-inside.result c.weigh_body-otherwise-in-Case.result c.join-joined-in-Case.result c.add-in-Case.result c.last-last.ensures selected inside otherwise c.join-joined-in-Case.ensures c.add-in-Case.ensures
    ∙ ap (λ w. min w stop) (sym same)

pub weigh_body-loop-stmt-preserved : goal.weigh_body-loop-stmt-preserved
weigh_body-loop-stmt-preserved t c = grind (arith, common_steps)

pub weigh_branches-returns : goal.weigh_branches-returns
weigh_branches-returns t c = grind (arith, common_steps)

pub weigh_choices-returns : goal.weigh_choices-returns
weigh_choices-returns t c = grind (arith, common_steps)

pub weigh_body-returns : goal.weigh_body-returns
weigh_body-returns t c = grind (arith, common_steps)
