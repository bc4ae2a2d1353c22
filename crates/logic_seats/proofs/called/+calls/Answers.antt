use Rattle.std.proofs.Common.{◌∙◌, ap, drop}
use Rattle.std.specs.Prelude.{◌||◌}
use Rattle.std.specs.List.{list_any}
use Rattle.std.proofs.lemmas.List.{drop_all}
use Rattle.plant_types.specs.Words.{same_word}
use Rattle.st_tree.specs.View.{view_body, view_branches, view_choices}
use Rattle.logic_source.specs.Paths.{called_in, called_in_branches, called_in_choices}
use Rattle.logic_seats.proofs.Gathered.{left_none, body_left, branches_left, choices_left}
use Rattle.logic_seats.proofs.called.+calls.Goals as goal

pub add_body-loop-stmt-preserved : goal.add_body-loop-stmt-preserved
add_body-loop-stmt-preserved t c =
    body_left c.args.body.now c.loop-stmt.stmt-index c.stmt-item.result c.loop-stmt.names c.add_stmt.new.names _ _ c.loop-stmt-test.true c.stmt-item.is c.loop-stmt.invariant c.in_ok-add_stmt.ensures

pub add_body-returns : goal.add_body-returns
add_body-returns t c =
    left_none c.loop-stmt.names (called_in (view_body (drop c.loop-stmt.stmt-index c.args.body.now))) _ _ (ap (λ l. called_in (view_body l)) (drop_all c.loop-stmt.stmt-index c.args.body.now c.loop-stmt-test.false)) c.loop-stmt.invariant

pub add_branches-loop-branch-preserved : goal.add_branches-loop-branch-preserved
add_branches-loop-branch-preserved t c =
    branches_left c.args.branches.now c.loop-branch.branch-index c.branch-item.result c.loop-branch.names c.add_body.new.names _ _ c.loop-branch-test.true c.branch-item.is c.loop-branch.invariant
    (λ n. c.in_ok-add_body.ensures n ∙ ap (λ l. list_any (same_word n) c.loop-branch.names || list_any (same_word n) (called_in (view_body l))) c.deref.ensures.value)

pub add_branches-returns : goal.add_branches-returns
add_branches-returns t c =
    left_none c.loop-branch.names (called_in_branches (view_branches (drop c.loop-branch.branch-index c.args.branches.now))) _ _ (ap (λ l. called_in_branches (view_branches l)) (drop_all c.loop-branch.branch-index c.args.branches.now c.loop-branch-test.false)) c.loop-branch.invariant

pub add_choices-loop-choice-preserved : goal.add_choices-loop-choice-preserved
add_choices-loop-choice-preserved t c =
    choices_left c.args.choices.now c.loop-choice.choice-index c.choice-item.result c.loop-choice.names c.add_body.new.names _ _ c.loop-choice-test.true c.choice-item.is c.loop-choice.invariant
    (λ n. c.in_ok-add_body.ensures n ∙ ap (λ l. list_any (same_word n) c.loop-choice.names || list_any (same_word n) (called_in (view_body l))) c.deref.ensures.value)

pub add_choices-returns : goal.add_choices-returns
add_choices-returns t c =
    left_none c.loop-choice.names (called_in_choices (view_choices (drop c.loop-choice.choice-index c.args.choices.now))) _ _ (ap (λ l. called_in_choices (view_choices l)) (drop_all c.loop-choice.choice-index c.args.choices.now c.loop-choice-test.false)) c.loop-choice.invariant
