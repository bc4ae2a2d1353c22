use Rattle.std.proofs.Common.{arith, ◌≡◌, ◌∙◌, ap, sym, max}
use Rattle.std.proofs.lemmas.Grind.{common_steps}
use Rattle.st_tree.specs.View.{view_body}
use Rattle.vm_sizes.specs.Sizes as sizes
use Rattle.vm_sizes.specs.Counts.{capped, words_at}
use Rattle.vm_sizes.proofs.Few.{words_at_stmt, words_at_branch, words_at_choice}
use Rattle.vm_sizes.proofs.Stopping.{one_more, two_more, still_within, both_within}
use Rattle.vm_sizes.proofs.words.+words.Goals as goal

pub branches_words-returns : goal.branches_words-returns
branches_words-returns t c = grind (arith, common_steps)

pub choices_words-returns : goal.choices_words-returns
choices_words-returns t c = grind (arith, common_steps)

pub body_words-returns : goal.body_words-returns
body_words-returns t c = grind (arith, common_steps)

pub body_words-loop-stmt-preserved : goal.body_words-loop-stmt-preserved
body_words-loop-stmt-preserved t c =
    let at = words_at_stmt c.args.seats.now (words_at c.args.table.now) c.args.body.now c.loop-stmt.stmt-index c.stmt-item.result c.loop-stmt-test.true c.stmt-item.is in
    let before = ap (λ r. capped (max c.loop-stmt.total r)) (sym at) ∙ c.loop-stmt.invariant.0 in
    let greatest : c.max-total.result ≡ max c.loop-stmt.total c.stmt_words.result = omega (arith, c.max-total.ensures) in
    (one_more 18446744073709551615 c.loop-stmt.total _ _ _ _ _ c.stmt_words.ensures greatest before, still_within 18446744073709551615 c.loop-stmt.total _ _ _ c.stmt_words.ensures greatest c.loop-stmt.invariant.1)

pub branches_words-loop-branch-preserved : goal.branches_words-loop-branch-preserved
branches_words-loop-branch-preserved t c =
    let at = words_at_branch c.args.seats.now (words_at c.args.table.now) c.args.branches.now c.loop-branch.branch-index c.branch-item.result c.loop-branch-test.true c.branch-item.is in
    let before = ap (λ r. capped (max c.loop-branch.total r)) (sym at) ∙ c.loop-branch.invariant.0 in
    let inside = c.body_words-inside.ensures ∙ ap (λ b. capped (sizes.body_words c.args.seats.now (words_at c.args.table.now) (view_body b))) c.deref.ensures.value in
    let greatest : c.max-total.result ≡ max c.loop-branch.total (max c.expr_words-test.result c.body_words-inside.result) = omega (arith, c.max-total.ensures, c.max.ensures) in
    (two_more 18446744073709551615 c.loop-branch.total _ _ _ _ _ _ _ c.expr_words-test.ensures inside greatest before, both_within 18446744073709551615 c.loop-branch.total _ _ _ _ _ c.expr_words-test.ensures inside greatest c.loop-branch.invariant.1)

pub choices_words-loop-choice-preserved : goal.choices_words-loop-choice-preserved
choices_words-loop-choice-preserved t c =
    let at = words_at_choice c.args.seats.now (words_at c.args.table.now) c.args.choices.now c.loop-choice.choice-index c.choice-item.result c.loop-choice-test.true c.choice-item.is in
    let before = ap (λ r. capped (max c.loop-choice.total r)) (sym at) ∙ c.loop-choice.invariant.0 in
    let inside = c.body_words.ensures ∙ ap (λ b. capped (sizes.body_words c.args.seats.now (words_at c.args.table.now) (view_body b))) c.deref.ensures.value in
    let greatest : c.max-total.result ≡ max c.loop-choice.total c.body_words.result = omega (arith, c.max-total.ensures) in
    (one_more 18446744073709551615 c.loop-choice.total _ _ _ _ _ inside greatest before, still_within 18446744073709551615 c.loop-choice.total _ _ _ inside greatest c.loop-choice.invariant.1)
