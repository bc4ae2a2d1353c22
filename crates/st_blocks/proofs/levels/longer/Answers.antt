use Rattle.std.proofs.Common.{◌∙◌, ap, get_or, false}
use Rattle.std.specs.List.{list_any}
use Rattle.st_blocks.proofs.LevelSteps.{mapped_more}
use Rattle.st_blocks.proofs.levels.longer.Goals as goal

pub loop-row-preserved : goal.loop-row-preserved
loop-row-preserved c = mapped_more (λ row. list_any (λ w. get_or c.args.chains.now w false) row.items) c.args.graph.now c.loop-row.row-index c.row-item.result c.loop-row.more.items c.push.new.self.items c.any_marked.result c.loop-row-test.true c.row-item.is c.loop-row.invariant c.in_ok-push.ensures.items (c.any_marked.ensures ∙ ap (λ l. list_any (λ w. get_or c.args.chains.now w false) l) c.deref.ensures.value)
