use Rattle.std.proofs.Common.{◌≡◌, ◌∙◌, false, true, ap, sym}
use Rattle.std.specs.Cmp.Lexicographic.{bytes_decides}
use Rattle.jiff.specs.Words.{parse_timestamp}
use Rattle.jiff.proofs.Family.{parse_timestamp-text, same_datetime}
use Rattle.base_stamps.specs.Instants.{instant_text}
use Rattle.base_stamps.proofs.instant.instant_of.Goals as goal

pub returns-in_default-clause-none : goal.returns-in_default-clause-none
returns-in_default-clause-none c _ t h =
    let read = parse_timestamp-text h.0 t h.1 in
    let given = rw c.in_default.is at c.parse.ensures.value in
    let bad = given ∙ ap parse_timestamp h.2 ∙ read in
    absurd (cc bad)

pub returns-then-eq-clause-some : goal.returns-then-eq-clause-some
returns-then-eq-clause-some c =
    let (dt, nanos, shown) = c.instant_text-printed.ensures in
    let same = (bytes_decides c.as_str.result.now c.args.text.now).0 (sym c.eq.ensures ∙ c.if-eq.true) in
    (dt, nanos, sym same ∙ c.as_str.ensures.value ∙ shown)

pub returns-else-eq-clause-none : goal.returns-else-eq-clause-none
returns-else-eq-clause-none c _ t h =
    let (dt, nanos, shown) = c.instant_text-printed.ensures in
    let read = rw c.in-Ok.is at c.parse.ensures.value ∙ ap parse_timestamp h.2 ∙ parse_timestamp-text h.0 t h.1 in
    let instant : c.in-Ok.instant.nanosecond ≡ t.nanosecond = cc read in
    let date = same_datetime dt h.0 (nanos ∙ instant ∙ sym h.1) in
    let same = c.as_str.ensures.value ∙ shown ∙ ap instant_text date ∙ sym h.2 in
    let yes = (bytes_decides c.as_str.result.now c.args.text.now).1 same in
    let bad : true ≡ false = sym yes ∙ sym c.eq.ensures ∙ c.if-eq.false in
    absurd (cc bad)
