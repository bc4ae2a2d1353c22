use Rattle.st_blocks.proofs.Falling.{none_rises}
use Rattle.st_blocks.proofs.holders.falling.Goals as goal

pub returns-else-never_rises : goal.returns-else-never_rises
returns-else-never_rises c = none_rises c.args.graph.now c.new.result.items c.new.ensures.items
