use Rattle.std.proofs.Common.{◌≡◌, length, sym, ◌∙◌, ap, arith}
use Rattle.std.proofs.lemmas.Grind.{common_steps}
use Rattle.console_log.proofs.Adding.{adds_moves}
use Rattle.console_log.proofs.log.Log.add.Goals as goal

pub compare_exchange-found-requires : goal.compare_exchange-found-requires
compare_exchange-found-requires g c =
    let s = c.self.inside in
    let h = c.self.invariant.1 in
    let offer = c.plain-offer.ensures in
    let pen = c.no_pen-pen.ensures in
    let book : c.seen.inside.seen.book ≡ s.word.book = ap (λ m. m.log) c.seen.view_is ∙ (ap (λ m. m.log) c.again.ensures ∙ sym (ap (λ w. w.book) h)) in
    let many : length c.seen.inside.seen.log ≡ s.count = ap (λ l. length l) (ap (λ m. m.entries) c.seen.view_is ∙ ap (λ m. m.entries) c.again.ensures) ∙ sym c.self.invariant.0 in (
      ap (λ w. w.tracked) h,
      book,
      pen.0 ∙ book,
      offer.0,
      rw (ap (λ w. w.key) h, pen.1, offer.1, offer.3) (adds_moves c.seen.inside.seen.log c.args.entry.now.value s.count many),
    )

pub invariant_of-self : goal.invariant_of-self
invariant_of-self c = grind (arith, common_steps)

pub returns-clause-entries : goal.returns-clause-entries
returns-clause-entries c = grind (arith, common_steps)

pub returns-clause-room : goal.returns-clause-room
returns-clause-room c = grind (arith, common_steps)

pub returns-then-found-count-clause-room : goal.returns-then-found-count-clause-room
returns-then-found-count-clause-room c = grind (arith, common_steps)

pub returns-clause-log : goal.returns-clause-log
returns-clause-log c = grind (arith, common_steps)

pub returns-then-count-clause-room : goal.returns-then-count-clause-room
returns-then-count-clause-room c = grind (arith, common_steps)
