use Rattle.std.specs.Prelude.{List, ℕ}
use Rattle.std.proofs.Common.{sym, subst}
use Rattle.logic_source.specs.Source.{Source, source_of}
use Rattle.logic_source.specs.Units.{source_in}
use Rattle.logic_source.specs.Blocks.{AreBelow}
use Rattle.try_parts.proofs.sources.push_logic_of.Goals as goal

pub push_seen-requires : goal.push_seen-requires
push_seen-requires c =
    let made = c.in_ok-logic.ensures in
    let order = c.in_ok-logic.order.items in
    let theirs : AreBelow (source_in c.args.typed).blocks order = c.order_is_of_source.ensures c.args.typed order made.typed made.order in
    let here : AreBelow (source_of c.in_ok-logic.logic).blocks order = subst (λ (s : Source). AreBelow s.blocks order) (sym made.source) theirs in
    subst (λ (o : List ℕ). AreBelow (source_of c.in_ok-logic.logic).blocks o) (sym c.deref.ensures.value) here
