use Rattle.std.proofs.Common.{◌≡◌, ◌∙◌, ◌+◌, ◌*◌, Some, false, pos, rules, ap, to_z, w64}
use Rattle.std.proofs.lemmas.Result.{IfOk-weaker}
use Rattle.base_stamps.specs.Stamps.{stamp}
use Rattle.base_stamps.proofs.Texts.{stamp_shown}
use Rattle.base_stamps.proofs.epoch.Epoch.stamp.Goals as goal

pub returns : goal.returns
returns c =
    let (dt, nanos, text) = c.timestamp_text-text.ensures in
    let plain = c.new.ensures in
    let options = c.precision-printer.ensures in
    let lower : c.precision-printer.result.lowercase ≡ false = search (rules, plain, options) in
    let separator : c.precision-printer.result.separator ≡ 84 = search (rules, plain, options) in
    let places : c.precision-printer.result.precision ≡ Some 3 = search (rules, plain, options) in
    let known = rw c.unwrap-instant.ensures at c.from_millisecond.ensures.value in
    let signed : to_z w64 (c.self.inside.seconds * 1000 + c.args.moment) ≡ pos (c.self.inside.seconds * 1000 + c.args.moment) = search rules in
    let shown = rw (lower, separator, places) at text in
    let moment = nanos ∙ ap (λ t. t.nanosecond) c.to_plain.ensures ∙ rw signed at known in
    IfOk-weaker c.from_str.result _ _ (λ s e. stamp_shown _ c.self.inside.seconds c.args.moment dt c.self.invariant c.requires moment (e ∙ c.as_str.ensures.value ∙ shown) ∙ ap (λ epoch. stamp epoch c.args.moment) c.self.view_is) c.from_str.ensures.ok
