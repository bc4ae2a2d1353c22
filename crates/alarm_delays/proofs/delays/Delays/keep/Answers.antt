use Rattle.std.proofs.Common.{◌≡◌, ◌<◌, ◌-◌, ℕ, List, Some, true, length, slice_get, slice_set, arith, ap, subst, sym, ◌∙◌}
use Rattle.std.proofs.lemmas.Option.{same_Some, slice_get-get_or}
use Rattle.alarm_delays.specs.Delays.{PlainDelays, IsDelays, have_none}
use Rattle.alarm_delays.proofs.DelayLaws.{none_at, put_delays, put_none}
use Rattle.alarm_delays.proofs.delays.Delays.keep.Goals as goal

pub invariant_of-self : goal.invariant_of-self
invariant_of-self c =
    let d = c.self.inside in
    let last : d.last ≡ c.args.self.now.last = ap (λ (x : PlainDelays). x.last) c.self.view_is in
    let many : length d.delays.items ≡ length c.args.self.now.delays = ap (λ (x : PlainDelays). length x.delays) c.self.view_is in
    let within : c.args.at < length d.delays.items = omega (arith, many, c.requires.there) in
    let none : have_none d.delays.items ≡ true = sym c.self.invariant.plain ∙ c.if-self.true in
    put_none d.delays.items d.since.items d.last d.due d.is_plain c.args.at c.args.since c.self.invariant (none_at d.delays.items c.args.at none within)
    (λ r e. let p = c.requires.past r e in omega (arith, last, p))

pub invariant_of-self-then-delay-eq0 : goal.invariant_of-self-then-delay-eq0
invariant_of-self-then-delay-eq0 c =
    let d = c.self.inside in
    let last : d.last ≡ c.args.self.now.last = ap (λ (x : PlainDelays). x.last) c.self.view_is in
    let many : length d.delays.items ≡ length c.args.self.now.delays = ap (λ (x : PlainDelays). length x.delays) c.self.view_is in
    let within : c.args.at < length d.delays.items = omega (arith, many, c.requires.there) in
    let delay = c.index-delay.result.now in
    let zero_is : delay ≡ 0 = omega (arith, c.if-delay-eq0.true) in
    let at : slice_get d.delays.items c.args.at ≡ Some 0 = slice_get-get_or d.delays.items c.args.at delay within ∙ ap Some (sym c.index-delay.ensures ∙ zero_is) in
    put_none d.delays.items d.since.items d.last d.due d.is_plain c.args.at c.args.since c.self.invariant at (λ r e. let p = c.requires.past r e in omega (arith, last, p))

pub invariant_of-self-2 : goal.invariant_of-self-2
invariant_of-self-2 c =
    let d = c.self.inside in
    let last : d.last ≡ c.args.self.now.last = ap (λ (x : PlainDelays). x.last) c.self.view_is in
    let many : length d.delays.items ≡ length c.args.self.now.delays = ap (λ (x : PlainDelays). length x.delays) c.self.view_is in
    let within : c.args.at < length d.delays.items = omega (arith, many, c.requires.there) in
    let delay = c.index-delay.result.now in
    let at : slice_get d.delays.items c.args.at ≡ Some delay = slice_get-get_or d.delays.items c.args.at delay within ∙ ap Some (sym c.index-delay.ensures) in
    subst (λ (due : List ℕ). IsDelays d.delays.items (slice_set d.since.items c.args.at c.args.since) d.last due d.is_plain) (sym c.put.ensures)
    (put_delays d.delays.items d.since.items d.last d.due d.is_plain c.args.at c.args.since c.due_at.result c.self.invariant within
    (λ r e. let p = c.requires.past r e in omega (arith, last, p))
    (λ wait r there e early.
    let same : delay ≡ wait = same_Some delay wait (sym at ∙ there) in
    let soon : d.last - r < delay = omega (arith, early, same) in
    let key = c.due_at.ensures r (c.start.ensures ∙ e) soon in omega (arith, key, same)))
