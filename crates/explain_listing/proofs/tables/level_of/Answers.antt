use Rattle.explain_listing.proofs.LevelLaws.{level_is_there}
use Rattle.explain_listing.proofs.tables.level_of.Goals as goal

-- each program has a level
pub of-requires : goal.of-requires
of-requires c = level_is_there c.args.plant.now c.args.levelled.now c.requires.levels c.levels.result.now c.levels.ensures c.args.program c.requires.there
