use Rattle.std.proofs.Common.{sym, ◌∙◌}
use Rattle.std.proofs.lemmas.Result.{on_ok_weaker, on_err_weaker, err_from_is_err_and}
use Rattle.serve_session.proofs.SessionLaws.{stopped-unwritten, stopped-line, answered-line, none_counted}
use Rattle.serve_session.proofs.session.answer.Goals as goal

pub returns-in_err-answer_line-clause-serves : goal.returns-in_err-answer_line-clause-serves
returns-in_err-answer_line-clause-serves g c =
    let p = err_from_is_err_and c.from_residual.result c.from_residual.ensures.1 in
    rw p.1 (λ plain request body same. (tt, stopped-unwritten _ request c.args.line.now body _ _ _ plain same c.in_err-answer_line.ensures.err))

pub returns-in-Text-clause-serves : goal.returns-in-Text-clause-serves
returns-in-Text-clause-serves g c =
    let text = rw c.clear.ensures.items at (c.in_ok-answer_line.ensures.text c.in-Text.is) in
    λ plain request body same. (
      on_ok_weaker c.put_all.result (λ w. answered-line _ request c.args.line.now body _ _ _ _ _ plain same c.in_ok-answer_line.ensures.history text w) (rw c.as_slice.ensures.value at c.put_all.ensures.ok),
      on_err_weaker c.put_all.result (λ e. stopped-line _ request c.args.line.now body e.0 e.1 _ _ _ _ plain same c.in_ok-answer_line.ensures.history (sym text ∙ sym c.as_slice.ensures.value ∙ e.2) e.3) c.put_all.ensures.err,
    )

pub returns-in-List-clause-serves : goal.returns-in-List-clause-serves
returns-in-List-clause-serves g c =
    let line = c.in_ok-answer_line.ensures in
    let list = line.list c.in-List.is in
    let ok = rw (line.plant, line.list_kept c.in-List.is) at c.write_list.ensures.ok in
    let err = rw (line.plant, line.list_kept c.in-List.is) at c.write_list.ensures.err in
    λ plain request body same. (
      on_ok_weaker c.write_list.result (λ w. answered-line _ request c.args.line.now body _ _ _ _ _ plain same line.history (sym list) w) ok,
      on_err_weaker c.write_list.result (λ e. stopped-line _ request c.args.line.now body e.0 e.1 _ _ _ _ plain same line.history (list ∙ e.2) e.3) err,
    )

pub returns-in-Journal-clause-serves : goal.returns-in-Journal-clause-serves
returns-in-Journal-clause-serves g c =
    let line = c.in_ok-answer_line.ensures in
    let journal = line.journal c.in-Journal.is in
    let ok = rw (line.plant, line.journal_kept c.in-Journal.is) at c.write_journal.ensures.ok in
    let err = rw (line.plant, line.journal_kept c.in-Journal.is) at c.write_journal.ensures.err in
    λ plain request body same. (
      on_ok_weaker c.write_journal.result (λ w. answered-line _ request c.args.line.now body _ _ _ _ _ plain same line.history (sym journal) w) ok,
      on_err_weaker c.write_journal.result (λ e. stopped-line _ request c.args.line.now body e.0 e.1 _ _ _ _ plain same line.history (journal ∙ e.2) e.3) err,
    )

pub returns-in-List-clause-crew : goal.returns-in-List-clause-crew
returns-in-List-clause-crew g c = c.in_ok-answer_line.ensures.crew ∙ none_counted _ c.write_list.result c.write_list.ensures.crew

pub returns-in-Journal-clause-crew : goal.returns-in-Journal-clause-crew
returns-in-Journal-clause-crew g c = c.in_ok-answer_line.ensures.crew ∙ none_counted _ c.write_journal.result c.write_journal.ensures.crew
