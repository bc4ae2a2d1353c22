use Rattle.std.proofs.Common.{◌≡◌, ◌<◌, Some, length, slice_get, arith, ap, sym, ◌∙◌}
use Rattle.std.proofs.lemmas.Option.{slice_get-get_or}
use Rattle.alarm_delays.specs.Delays.{PlainDelays}
use Rattle.alarm_delays.proofs.DelayLaws.{after_past}
use Rattle.alarm_delays.proofs.delays.Delays.put.Goals as goal

pub keep-requires-clause-past : goal.keep-requires-clause-past
keep-requires-clause-past c = λ r e.
    let d = c.self.inside in
    let last : d.last ≡ c.args.self.now.last = ap (λ (x : PlainDelays). x.last) c.self.view_is in
    let many : length d.delays.items ≡ length c.args.self.now.delays = ap (λ (x : PlainDelays). length x.delays) c.self.view_is in
    let each = c.self.invariant.each in
    let within : c.args.at < length d.since.items = omega (arith, many, each, c.requires) in
    let before = c.index-before.result.now in
    let at : slice_get d.since.items c.args.at ≡ Some before = slice_get-get_or d.since.items c.args.at before within ∙ ap Some (sym c.index-before.ensures) in
    let late = after_past c.args.condition d.last before r (λ q is. c.self.invariant.past c.args.at q (at ∙ ap Some is)) (sym c.after.ensures ∙ e) in
    omega (arith, late, last)
