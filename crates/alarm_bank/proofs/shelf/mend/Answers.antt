use Rattle.std.proofs.Common.{arith}
use Rattle.std.proofs.lemmas.Grind.{common_steps}
use Rattle.alarm_bank.proofs.shelf.mend.Goals as goal

pub loop-at-preserved : goal.loop-at-preserved
loop-at-preserved c = grind (arith, common_steps)

pub returns-clause-tree : goal.returns-clause-tree
returns-clause-tree c = grind (arith, common_steps)
