use Rattle.std.proofs.Common.{◌+◌, ◌==◌, ℕ, not, List, count_by, ap}
use Rattle.std.specs.List.{suffix_len}
use Rattle.explain_places.specs.declared.place.TextPlace.{TextPlace}
use Rattle.explain_places.proofs.PlaceLaws.{before_is}
use Rattle.explain_places.proofs.place.place_at.Goals as goal

-- the place after these bytes
abbrev after : List ℕ → TextPlace
after before = record { line = count_by (λ b. b == 10) before + 1; column = suffix_len (λ b. not (b == 10)) before + 1 }

-- the bytes before it are those of the definition
pub returns : goal.returns
returns c =
    let before = before_is c.args.text.now c.args.at c.mark_len-skipped.result _ c.min-number.result c.saturating_sub.result c.mark_len-skipped.ensures.found c.saturating_sub.ensures c.min-number.ensures in
    rw (c.place_after.ensures.line, c.place_after.ensures.column) (ap after before)
