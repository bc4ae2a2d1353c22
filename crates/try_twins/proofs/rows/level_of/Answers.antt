use Rattle.try_twins.proofs.Stores.{level_is_there}
use Rattle.try_twins.proofs.rows.level_of.Goals as goal

pub of-requires : goal.of-requires
of-requires c = level_is_there c.args.framed.now c.args.levelled.now c.requires.levels c.levels.result.now c.levels.ensures c.args.program c.requires.there
