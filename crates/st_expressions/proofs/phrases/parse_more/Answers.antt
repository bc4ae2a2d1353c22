-- One phrase more, none more, and one that stops.
use Rattle.std.proofs.Common.{◌≡◌, ◌+◌, ◌-◌, ◌∙◌, ap, sym, subst, arith, rules, length, map, None, Some}
use Rattle.std.specs.Prelude.{option_map}
use Rattle.st_expressions.specs.Outcome.{Fails}
use Rattle.st_expressions.specs.Reading.{perhaps_at}
use Rattle.st_expressions.proofs.Several.{several_more, several_end, several_stop}
use Rattle.st_expressions.proofs.phrases.parse_more.Goals as goal

pub returns-in_err-tree : goal.returns-in_err-tree
returns-in_err-tree g c =
    let P = g.P.Phrase in
    let stopped = subst (Fails c.in_err-tree.field-0.0) c.loop-turn.invariant
    (several_stop (P.starts c.args.phrase.now) (P.one_at c.args.phrase.now) (map P.view c.loop-turn.all.items) (length c.args.reader.now - c.loop-turn._turn) c.loop-turn.reader c.in_err-tree.field-0.0 c.in_err-tree.ensures) in
    search rules

pub returns-in-None : goal.returns-in-None
returns-in-None g c =
    let P = g.P.Phrase in
    let none : perhaps_at (P.starts c.args.phrase.now) (P.one_at c.args.phrase.now) c.loop-turn.reader ≡ Some (None, c.parse.new.reader) =
    c.in_ok-tree.ensures ∙ ap (λ o. Some (option_map P.view o, c.parse.new.reader)) c.in-None.is in
    sym c.loop-turn.invariant ∙ several_end (P.starts c.args.phrase.now) (P.one_at c.args.phrase.now) (map P.view c.loop-turn.all.items) (length c.args.reader.now - c.loop-turn._turn) c.loop-turn.reader c.parse.new.reader none

pub loop-turn-preserved : goal.loop-turn-preserved
loop-turn-preserved g c =
    let P = g.P.Phrase in
    let count = length c.args.reader.now in
    let turn = c.loop-turn._turn in
    several_more P.view (P.starts c.args.phrase.now) (P.one_at c.args.phrase.now) c.loop-turn.all.items c.push.new.self.items c.in-Some.tree c.in_ok-tree.field-0 (count - turn) (count - (turn + 1)) c.loop-turn.reader c.parse.new.reader
    c.in_ok-push-in-Some.ensures.items (omega arith) c.in-Some.is c.in_ok-tree.ensures ∙ c.loop-turn.invariant
