use Rattle.std.proofs.Common.{◌∙◌, ap, filter}
use Rattle.std.proofs.lemmas.Result.{err_from_is_err_and}
use Rattle.st_blocks.specs.Names.{is_first}
use Rattle.st_blocks.proofs.Numbered.{graph_as, in_range}
use Rattle.st_blocks.proofs.Judged.{fault_is, sound_is, order_within}
use Rattle.st_blocks.proofs.order.order_blocks.Goals as goal

pub judge-requires : goal.judge-requires
judge-requires c = in_range c.args.blocks.now c.deref.result.now (graph_as c.args.blocks.now c.deref.result.now c.in_ok-graph.graph.items c.deref.ensures.value c.in_ok-graph.ensures)

pub returns-in_err-numbers-clause-order : goal.returns-in_err-numbers-clause-order
returns-in_err-numbers-clause-order c =
    let p = err_from_is_err_and c.from_residual-in_err-numbers.result c.from_residual-in_err-numbers.ensures.1 in
    rw (p.1, p.2)
    (fault_is c.args.blocks.now c.deref.result.now (graph_as c.args.blocks.now c.deref.result.now c.in_ok-graph.graph.items c.deref.ensures.value c.in_ok-graph.ensures) c.in_err-numbers.field-0.0 c.in_err-numbers.ensures)

pub returns-clause-order : goal.returns-clause-order
returns-clause-order c =
    sound_is c.args.blocks.now c.deref.result.now (graph_as c.args.blocks.now c.deref.result.now c.in_ok-graph.graph.items c.deref.ensures.value c.in_ok-graph.ensures) c.in_ok-numbers.numbers.items c.in_ok-firsts.field-0.items c.in_ok-numbers.ensures
    (c.in_ok-firsts.ensures ∙ ap (filter (is_first c.args.blocks.now)) c.deref-2.ensures.value)

pub returns-clause-range : goal.returns-clause-range
returns-clause-range c =
    let ordered =
    sound_is c.args.blocks.now c.deref.result.now (graph_as c.args.blocks.now c.deref.result.now c.in_ok-graph.graph.items c.deref.ensures.value c.in_ok-graph.ensures) c.in_ok-numbers.numbers.items c.in_ok-firsts.field-0.items c.in_ok-numbers.ensures
    (c.in_ok-firsts.ensures ∙ ap (filter (is_first c.args.blocks.now)) c.deref-2.ensures.value) in
    order_within c.args.blocks.now c.in_ok-firsts.field-0.items ordered.ordered
