use Rattle.std.proofs.Common.{◌≡◌, ◌∙◌, length, sym}
use Rattle.std.proofs.lemmas.List.{length-map}
use Rattle.std.proofs.lemmas.Result.{err_from_is_err_and, on_ok_weaker, on_err_weaker}
use Rattle.engine.specs.Journal.{journal_of}
use Rattle.serve_answers.specs.Listings.{text_of, named_line, journal_lines, journal_text}
use Rattle.serve_answers.proofs.PassingLaws.{begun_longer, ended_written, ended_begun}
use Rattle.serve_answers.proofs.spilling.write_journal.Goals as goal

pub returns-in_err-write_rows-clause-err : goal.returns-in_err-write_rows-clause-err
unfolding journal_text
returns-in_err-write_rows-clause-err g c =
    let p = err_from_is_err_and c.from_residual.result c.from_residual.ensures.1 in
    let begun = rw c.clear.ensures.items at c.in_err-write_rows.ensures.err in
    rw p.1 (begun_longer _ _ (text_of (journal_lines c.args.engine.now.plant c.args.engine.now.history)) _ begun)

pub returns-clause-ok : goal.returns-clause-ok
unfolding journal_text
returns-clause-ok g c =
    let plant = c.args.engine.now.plant in
    let history = c.args.engine.now.history in
    let count : c.row_total-rows.result ≡ length (journal_lines plant history) = c.row_total-rows.ensures ∙ sym (length-map (journal_of plant history) (named_line plant.epoch)) in
    let passed = rw c.clear.ensures.items at c.in_ok-write_rows.ensures.ok in
    on_ok_weaker c.write_end.result
    (ended_written (g.S.Sink.written c.args.sink.now) (g.S.Sink.written c.write_rows.new.sink) (g.S.Sink.written c.write_end.new.sink) (journal_lines plant history) c.write_rows.new.text.items c.row_total-rows.result count passed)
    c.write_end.ensures.ok

pub returns-clause-err : goal.returns-clause-err
unfolding journal_text
returns-clause-err g c =
    let plant = c.args.engine.now.plant in
    let history = c.args.engine.now.history in
    let count : c.row_total-rows.result ≡ length (journal_lines plant history) = c.row_total-rows.ensures ∙ sym (length-map (journal_of plant history) (named_line plant.epoch)) in
    let passed = rw c.clear.ensures.items at c.in_ok-write_rows.ensures.ok in
    on_err_weaker c.write_end.result
    (ended_begun (g.S.Sink.written c.args.sink.now) (g.S.Sink.written c.write_rows.new.sink) (g.S.Sink.written c.write_end.new.sink) (journal_lines plant history) c.write_rows.new.text.items c.row_total-rows.result count passed)
    c.write_end.ensures.err
