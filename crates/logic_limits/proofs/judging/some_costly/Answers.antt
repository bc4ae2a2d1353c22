use Rattle.std.proofs.Common.{arith}
use Rattle.std.proofs.lemmas.Grind.{common_steps}
use Rattle.logic_limits.proofs.judging.some_costly.Goals as goal

pub returns-then-program-ge-LAST_COST : goal.returns-then-program-ge-LAST_COST
returns-then-program-ge-LAST_COST c = grind (arith, common_steps)

pub loop-program-preserved : goal.loop-program-preserved
loop-program-preserved c = grind (arith, common_steps)
