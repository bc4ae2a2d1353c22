use Rattle.std.proofs.Common.{◌≡◌, ◌-◌, length, map}
use Rattle.st_expressions.specs.Reading.{with_first, many}
use Rattle.st_expressions.proofs.phrases.parse_more.Given as goal

-- what is parsed so far and what is still to come is all
abbrev pub invariant-loop-turn : goal.invariant-loop-turn
invariant-loop-turn g l =
    let starts = g.P.Phrase.starts l.phrase in
    let one_at = g.P.Phrase.one_at l.phrase in
    with_first (map g.P.Phrase.view l.all.items) (many starts one_at (length l.initial.reader - l._turn) l.reader) ≡ with_first (map g.P.Phrase.view l.initial.all.items) (many starts one_at (length l.initial.reader) l.initial.reader)
