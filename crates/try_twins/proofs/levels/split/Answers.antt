use Rattle.std.specs.Arc.{arc_value}
use Rattle.try_twins.proofs.Stores.{can_by}
use Rattle.try_twins.proofs.levels.split.Goals as goal

pub split-requires-clause-programs : goal.split-requires-clause-programs
split-requires-clause-programs c =
    can_by c.args.levelled.now c.args.level c.args.store.now (arc_value c.parts-parts.result.now) c.levels.result.now c.parts-parts.ensures c.levels.ensures c.requires.can

pub returns-clause-cells : goal.returns-clause-cells
returns-clause-cells c = c.split.ensures.same.cells

pub returns-clause-flags : goal.returns-clause-flags
returns-clause-flags c = c.split.ensures.same.faulted
