use Rattle.std.proofs.Common.{◌≡◌, ◌∙◌, None, false, rules, ap}
use Rattle.base_stamps.proofs.instant.instant_text.Goals as goal

pub returns : goal.returns
returns c =
    let (dt, nanos, text) = c.timestamp_text.ensures in
    let plain = c.new.ensures in
    let lower : c.new.result.lowercase ≡ false = search (rules, plain) in
    let separator : c.new.result.separator ≡ 84 = search (rules, plain) in
    let places : c.new.result.precision ≡ None = search (rules, plain) in
    (dt, nanos ∙ ap (λ t. t.nanosecond) c.to_plain.ensures, rw (lower, separator, places) at text)
