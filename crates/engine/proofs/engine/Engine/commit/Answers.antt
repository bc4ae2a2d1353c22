use Rattle.std.proofs.Common.{arith}
use Rattle.std.proofs.lemmas.Grind.{common_steps}
use Rattle.engine.proofs.engine.Engine.commit.Goals as goal

pub returns-clause-plant : goal.returns-clause-plant
returns-clause-plant c = grind (arith, common_steps)

pub returns-clause-row_room : goal.returns-clause-row_room
returns-clause-row_room c = grind (arith, common_steps)

pub put_scan-requires : goal.put_scan-requires
put_scan-requires c = grind (arith, common_steps)
