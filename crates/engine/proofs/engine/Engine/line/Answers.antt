use Rattle.std.proofs.Common.{◌≡◌, ◌-◌, ◌∙◌, ap, sym, arith}
use Rattle.std.proofs.lemmas.Result.{IfOk-weaker}
use Rattle.journal_core.specs.Bodies.{row_text}
use Rattle.engine_system.specs.Plants.{PlainPlant}
use Rattle.engine.specs.Journal.{name_of}
use Rattle.engine.proofs.Lawful.{lawful_numbers}
use Rattle.engine.proofs.Journals.{as_many_rows}
use Rattle.engine.proofs.Names.{kept_line, other_line, row_until}
use Rattle.engine.proofs.engine.Engine.line.Goals as goal

pub row-row-requires-clause-last : goal.row-row-requires-clause-last
row-row-requires-clause-last c =
    let many = as_many_rows c.self.inside.began c.self.inside.history c.self.inside.log.rows c.self.invariant.0.journal in
    let last = rw (← c.self.view_is) at c.requires.last in
    omega (arith, many, last)

pub row_text-requires : goal.row_text-requires
row_text-requires c =
    let is = c.self.invariant.0 in
    row_until c.self.inside.log.rows c.self.inside.state.moment _ (c.args.number - 1) c.row-row.result is.until is.state_is.in_range c.row-row.ensures

pub line_text-requires-clause-range : goal.line_text-requires-clause-range
line_text-requires-clause-range c =
    let is = c.self.invariant.0 in
    row_until c.self.inside.log.rows c.self.inside.state.moment _ (c.args.number - 1) c.row-row.result is.until is.state_is.in_range c.row-row.ensures

pub line_text-requires-clause-named : goal.line_text-requires-clause-named
line_text-requires-clause-named c =
    let have = c.self.invariant.0.have_names in
    have.named (c.args.number - 1) c.row-row.result c.row-row.ensures (omega (arith, c.if-place-len.false, c.requires.first))

pub returns-then-place-len : goal.returns-then-place-len
returns-then-place-len c =
    let own = c.self.inside in
    let is = c.self.invariant.0 in
    let row = c.row-row.result in
    let epoch : c.epoch.result.now ≡ own.began.epoch = c.epoch.ensures ∙ ap (λ (p : PlainPlant). p.epoch) (sym is.present) ∙ (lawful_numbers own.began own.history is.lawful).1 in
    rw (← c.self.view_is) (IfOk-weaker c.row_text.result _ _ (λ text e.
    kept_line own.began own.history own.log.rows own.names own.plant own.began.epoch c.args.number row c.get.result.now _ is.journal is.have_names c.row-row.ensures c.get.ensures (e ∙ ap (λ n. row_text n row c.get.result.now) epoch)
    ) c.row_text.ensures)

pub returns : goal.returns
returns c =
    let own = c.self.inside in
    let is = c.self.invariant.0 in
    let row = c.row-row.result in
    let epoch : c.epoch-2.result.now ≡ own.began.epoch = c.epoch-2.ensures ∙ ap (λ (p : PlainPlant). p.epoch) (sym is.present) ∙ (lawful_numbers own.began own.history is.lawful).1 in
    rw (← c.self.view_is) (IfOk-weaker c.line_text.result _ _ (λ text e.
    other_line own.began own.history own.log.rows own.names own.plant own.began.epoch c.args.number row _ is.journal is.have_names c.row-row.ensures (omega (arith, c.if-place-len.false, c.requires.first)) (e ∙ ap (λ n. row_text n row (name_of own.plant row.entry)) epoch)
    ) c.line_text.ensures)
