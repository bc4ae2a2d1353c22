use Rattle.std.proofs.Common.{◌∙◌, ap, sym}
use Rattle.std.specs.Prelude.{if◌then◌else◌}
use Rattle.vm_sizes.specs.Counts.{words_at}
use Rattle.vm_sizes.specs.Sizes.{entered, entered_by}
use Rattle.vm_sizes.proofs.Lookups.{found, missed}
use Rattle.vm_sizes.proofs.words.entered_words.Goals as goal

pub returns-in-Standard : goal.returns-in-Standard
returns-in-Standard c =
    let at = found c.args.seats.now c.args.instance c.in-Some.seat.now c.in-Some.ensures.lookup.0 c.in-Some.ensures.lookup.1 in
    sym (ap (entered 0 (words_at c.args.table.now)) at ∙ ap (λ of. entered_by 0 (words_at c.args.table.now) of c.in-Some.seat.now.is_called) c.in-Standard.is)

pub returns-then-seat : goal.returns-then-seat
returns-then-seat c =
    let at = found c.args.seats.now c.args.instance c.in-Some.seat.now c.in-Some.ensures.lookup.0 c.in-Some.ensures.lookup.1 in
    let called = ap (entered 0 (words_at c.args.table.now)) at ∙ ap (λ of. entered_by 0 (words_at c.args.table.now) of c.in-Some.seat.now.is_called) c.in-Frame.is in
    c.words_at.ensures ∙ sym (called ∙ ap (λ b. if b then words_at c.args.table.now c.in-Frame.k else 0) c.if-seat.true)

pub returns-else-seat : goal.returns-else-seat
returns-else-seat c =
    let at = found c.args.seats.now c.args.instance c.in-Some.seat.now c.in-Some.ensures.lookup.0 c.in-Some.ensures.lookup.1 in
    let called = ap (entered 0 (words_at c.args.table.now)) at ∙ ap (λ of. entered_by 0 (words_at c.args.table.now) of c.in-Some.seat.now.is_called) c.in-Frame.is in
    sym (called ∙ ap (λ b. if b then words_at c.args.table.now c.in-Frame.k else 0) c.if-seat.false)

pub returns-in-None : goal.returns-in-None
returns-in-None c = sym (ap (entered 0 (words_at c.args.table.now)) (missed c.args.seats.now c.args.instance c.in-None.ensures.lookup.0))
