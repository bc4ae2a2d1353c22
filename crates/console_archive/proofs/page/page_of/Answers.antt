use Rattle.std.proofs.Common.{◌≡◌, ◌∙◌, ◌-◌, ◌≤◌, map, [], ◌∷◌, length, arith}
use Rattle.std.specs.Prelude.{string_bytes}
use Rattle.std.proofs.lemmas.List.{map-append}
use Rattle.engine.specs.Journal.{journal_of}
use Rattle.console_archive.proofs.Pages.{page_none, page_more, page_whole}
use Rattle.console_archive.proofs.page.page_of.Goals as goal

pub loop-before-init : goal.loop-before-init
loop-before-init c =
    let e = c.args.engine.now in
    let first : c.saturating_sub-before.result ≡ c.args.from - 1 = omega (arith, c.saturating_sub-before.ensures) in
    rw (first, c.new-lines.ensures.items) (page_none e.plant e.history c.args.from)

pub loop-before-preserved : goal.loop-before-preserved
loop-before-preserved c =
    let e = c.args.engine.now in
    let lines = c.loop-before.lines.items in
    let line = c.in_ok-line.field-0 in
    let start : c.args.from - 1 ≤ c.loop-before.before = omega (arith, c.saturating_sub-before.ensures, c.loop-before.auto.before) in
    let more = page_more e.plant e.history c.args.from c.loop-before.before (map string_bytes lines) (string_bytes line) start c.loop-before.invariant c.in_ok-line.ensures in
    rw (c.in_ok-push.ensures.items, map-append string_bytes lines (line ∷ [])) more

pub returns : goal.returns
returns c =
    let e = c.args.engine.now in
    let start : c.args.from - 1 ≤ c.loop-before.before = omega (arith, c.saturating_sub-before.ensures, c.loop-before.auto.before) in
    let many : c.len-rows.result ≡ length (journal_of e.plant e.history) = c.len-rows.ensures.count ∙ c.journal.ensures.rows in
    page_whole e.plant e.history c.args.from c.args.n c.len-rows.result c.page_end-before-end.result c.loop-before.before (map string_bytes c.loop-before.lines.items)
    many c.page_end-before-end.ensures c.loop-before-test.false start
    (λ h. omega (arith, h, c.saturating_sub-before.ensures, c.loop-before.auto.before-end)) c.loop-before.invariant

pub line-requires-clause-last : goal.line-requires-clause-last
line-requires-clause-last c =
    let e = c.args.engine.now in
    let many : c.len-rows.result ≡ length (journal_of e.plant e.history) = c.len-rows.ensures.count ∙ c.journal.ensures.rows in
    omega (arith, many, c.page_end-before-end.ensures, c.loop-before-test.true)
