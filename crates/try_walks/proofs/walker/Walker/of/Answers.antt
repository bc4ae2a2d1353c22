use Rattle.std.proofs.Common.{◌≡◌, sym, subst}
use Rattle.std.specs.Prelude.{MatchResult}
use Rattle.logic_source.specs.Source.{Source, source_of}
use Rattle.logic_source.specs.Units.{source_in}
use Rattle.logic_source.specs.Blocks.{AreBelow}
use Rattle.logic_limits.specs.Limits.{IsLimitFault}
use Rattle.try_walks.proofs.walker.Walker.of.Goals as goal

pub judged-requires-clause-sound : goal.judged-requires-clause-sound
judged-requires-clause-sound c limits =
    let made = c.in_ok-logic.ensures in
    let order = c.in_ok-logic.order.items in
    let theirs : AreBelow (source_in c.args.typed).blocks order = c.order_is_of_source.ensures c.args.typed order made.typed made.order in
    let here : AreBelow (source_of c.in_ok-logic.logic).blocks order = subst (λ (s : Source). AreBelow s.blocks order) (sym made.source) theirs in
    record { units = c.args.typed; typed = made.typed; are_theirs = made.source; order = order; below = here; limits = limits }

pub judged-requires-clause-below : goal.judged-requires-clause-below
judged-requires-clause-below c =
    let made = c.in_ok-logic.ensures in
    let order = c.in_ok-logic.order.items in
    let theirs : AreBelow (source_in c.args.typed).blocks order = c.order_is_of_source.ensures c.args.typed order made.typed made.order in
    subst (λ (s : Source). AreBelow s.blocks order) (sym made.source) theirs

pub returns : goal.returns
returns c = subst (λ (s : Source). MatchResult c.judged.result (λ walker. walker ≡ s) (IsLimitFault s)) c.in_ok-logic.ensures.source c.judged.ensures
