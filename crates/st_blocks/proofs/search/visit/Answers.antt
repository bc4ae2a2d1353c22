use Rattle.std.proofs.Common.{arith}
use Rattle.std.proofs.lemmas.Grind.{common_steps}
use Rattle.st_blocks.proofs.search.visit.Goals as goal

pub returns : goal.returns
returns c = grind (arith, common_steps)
