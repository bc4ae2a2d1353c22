use Rattle.std.proofs.lemmas.Result.{err_from_is_err_and, on_ok_weaker, on_err_weaker}
use Rattle.engine.specs.Engines.{state_of}
use Rattle.serve_answers.specs.declared.spilling.Half.TheVariants as half
use Rattle.serve_answers.specs.Listings.{half_lines, list_text}
use Rattle.serve_answers.proofs.PassingLaws.{list_first, list_cut, list_written, list_begun}
use Rattle.serve_answers.proofs.spilling.write_list.Goals as goal

pub returns-in_err-states-clause-err : goal.returns-in_err-states-clause-err
unfolding list_text
returns-in_err-states-clause-err g c =
    let p = err_from_is_err_and c.from_residual.result c.from_residual.ensures.1 in
    let begun = rw c.clear.ensures.items at c.in_err-states.ensures.err in
    rw p.1 (list_first _ _ (half_lines (state_of c.args.engine.now) half.States) (half_lines (state_of c.args.engine.now) half.Counts) begun)

pub returns-in_err-counts-clause-err : goal.returns-in_err-counts-clause-err
unfolding list_text
returns-in_err-counts-clause-err g c =
    let p = err_from_is_err_and c.from_residual-in_err-counts.result c.from_residual-in_err-counts.ensures.1 in
    let states = rw c.clear.ensures.items at c.in_ok-states.ensures.ok in
    rw p.1 (list_cut _ _ _ _ _ (half_lines (state_of c.args.engine.now) half.Counts) states _ c.in_err-counts.ensures.err)

pub returns-clause-ok : goal.returns-clause-ok
unfolding list_text
returns-clause-ok g c =
    let states = rw c.clear.ensures.items at c.in_ok-states.ensures.ok in
    on_ok_weaker c.write_end.result (λ a. list_written _ _ _ _ _ _ states _ _ _ _ c.in_ok-counts.ensures.ok a) c.write_end.ensures.ok

pub returns-clause-err : goal.returns-clause-err
unfolding list_text
returns-clause-err g c =
    let states = rw c.clear.ensures.items at c.in_ok-states.ensures.ok in
    on_err_weaker c.write_end.result (λ b. list_begun _ _ _ _ _ _ states _ _ _ _ c.in_ok-counts.ensures.ok b) c.write_end.ensures.err
