use Rattle.std.proofs.Common.{◌∙◌, ◌+◌, ap, sym, map, arith}
use Rattle.std.proofs.lemmas.Grind.{common_steps}
use Rattle.st_tree.specs.Plain.{call}
use Rattle.st_tree.specs.Kinds.{resolved_argument}
use Rattle.st_tree.specs.Mapping.{mapped_argument}
use Rattle.st_tree.specs.Numbers.{count_body}
use Rattle.st_tree.specs.View.{view_expr, view_argument, view_stmt, view_body}
use Rattle.st_tree.proofs.Views.{view_stmt-Call, view_branch_is, view_branch_made, view_choice_is, view_choice_made}
use Rattle.logic_frames.specs.Scoped.{scope_instance, scope_kinds, mapping_of, flat_stmt, flat_body}
use Rattle.logic_frames.proofs.Joined.{body_more, body_whole, branches_more, branches_whole, choices_more, choices_whole}
use Rattle.logic_frames.proofs.resolve.+resolve.Goals as goal

pub resolve_body-loop-stmt-preserved : goal.resolve_body-loop-stmt-preserved
resolve_body-loop-stmt-preserved t c =
    body_more c.args.scope.now _ _ c.args.body.now c.loop-stmt.stmt-index c.stmt-item.result c.loop-stmt.number c.resolve_stmt.new.number c.loop-stmt.resolved.items c.push.new.self.items c.in_ok-resolve_stmt.field-0 c.loop-stmt-test.true c.stmt-item.is c.loop-stmt.invariant c.in_ok-resolve_stmt.ensures.stmt c.in_ok-resolve_stmt.ensures.count c.in_ok-push.ensures.items

pub resolve_body-returns-clause-body : goal.resolve_body-returns-clause-body
resolve_body-returns-clause-body t c = (body_whole c.args.scope.now _ _ c.args.body.now c.loop-stmt.stmt-index c.loop-stmt.number c.loop-stmt.resolved.items c.loop-stmt-test.false c.loop-stmt.invariant).0

pub resolve_branches-loop-branch-preserved : goal.resolve_branches-loop-branch-preserved
resolve_branches-loop-branch-preserved t c =
    let scope = c.args.scope.now in
    let number = c.loop-branch.number in
    let test = c.in_ok-test.ensures in
    let body = c.in_ok-body.ensures.body ∙ ap (λ l. flat_body scope number (view_body l)) c.deref.ensures.value in
    let counted = c.in_ok-body.ensures.count ∙ ap (λ l. number + count_body (view_body l)) c.deref.ensures.value in
    branches_more scope _ _ c.args.branches.now c.loop-branch.branch-index c.branch-item.result number c.resolve_body.new.number c.loop-branch.resolved.items c.push.new.self.items _ (view_expr c.branch-item.result.test) (view_body c.branch-item.result.body.items) c.loop-branch-test.true c.branch-item.is c.loop-branch.invariant (view_branch_is c.branch-item.result)
    (view_branch_made c.in_ok-test.test c.in_ok-body.body ∙ (λ k. (test k, body k))) counted c.in_ok-push.ensures.items

pub resolve_branches-returns-clause-branches : goal.resolve_branches-returns-clause-branches
resolve_branches-returns-clause-branches t c = (branches_whole c.args.scope.now _ _ c.args.branches.now c.loop-branch.branch-index c.loop-branch.number c.loop-branch.resolved.items c.loop-branch-test.false c.loop-branch.invariant).0

pub resolve_choices-loop-choice-preserved : goal.resolve_choices-loop-choice-preserved
resolve_choices-loop-choice-preserved t c =
    let scope = c.args.scope.now in
    let number = c.loop-choice.number in
    let labels = c.in_ok-labels.ensures ∙ c.deref.ensures.value in
    let body = c.in_ok-body.ensures.body ∙ ap (λ l. flat_body scope number (view_body l)) c.deref-in-loop-choice.ensures.value in
    let counted = c.in_ok-body.ensures.count ∙ ap (λ l. number + count_body (view_body l)) c.deref-in-loop-choice.ensures.value in
    choices_more scope _ _ c.args.choices.now c.loop-choice.choice-index c.choice-item.result number c.resolve_body.new.number c.loop-choice.resolved.items c.push.new.self.items _ c.choice-item.result.labels.items (view_body c.choice-item.result.body.items) c.loop-choice-test.true c.choice-item.is c.loop-choice.invariant (view_choice_is c.choice-item.result)
    (view_choice_made c.in_ok-labels.labels c.in_ok-body.body ∙ (λ k. (labels k, body k))) counted c.in_ok-push.ensures.items

pub resolve_choices-returns-clause-choices : goal.resolve_choices-returns-clause-choices
resolve_choices-returns-clause-choices t c = (choices_whole c.args.scope.now _ _ c.args.choices.now c.loop-choice.choice-index c.loop-choice.number c.loop-choice.resolved.items c.loop-choice-test.false c.loop-choice.invariant).0

pub resolve_stmt-returns-in_ok-arguments-in-Call-clause-stmt : goal.resolve_stmt-returns-in_ok-arguments-in-Call-clause-stmt
resolve_stmt-returns-in_ok-arguments-in-Call-clause-stmt t c =
    let scope = c.args.scope.now in
    let own = c.next_number-own.ensures.own in
    let called = c.instance-called.ensures ∙ ap (scope_instance scope) c.as_str-in-Call.ensures in
    let arguments = c.in_ok-arguments-in-Call.ensures ∙ ap (λ a. map (mapped_argument (mapping_of scope) c.in-Call.instance) (map (resolved_argument (scope_kinds scope)) (map view_argument a))) c.deref.ensures.value in
    view_stmt-Call _ _ _ ∙ (λ i. call (own i) (called i) (arguments i)) ∙ ap (flat_stmt scope c.args.number.now) (sym (view_stmt-Call _ _ _) ∙ ap view_stmt (sym c.in-Call.is))

pub resolve_choices-returns-clause-count : goal.resolve_choices-returns-clause-count
resolve_choices-returns-clause-count t c = grind (arith, common_steps)

pub resolve_branches-returns-clause-count : goal.resolve_branches-returns-clause-count
resolve_branches-returns-clause-count t c = grind (arith, common_steps)

pub resolve_body-returns-clause-count : goal.resolve_body-returns-clause-count
resolve_body-returns-clause-count t c = grind (arith, common_steps)
