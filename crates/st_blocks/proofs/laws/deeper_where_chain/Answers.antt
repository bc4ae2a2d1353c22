use Rattle.st_blocks.proofs.Depths.{deeper}
use Rattle.st_blocks.proofs.laws.deeper_where_chain.Goals as goal

pub returns : goal.returns
returns c = deeper
