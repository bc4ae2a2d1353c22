use Rattle.std.proofs.Common.{arith}
use Rattle.std.proofs.lemmas.Grind.{common_steps}
use Rattle.console_recorder.proofs.laying.flags_of.Goals as goal

pub loop-alarm-preserved : goal.loop-alarm-preserved
loop-alarm-preserved c = grind (arith, common_steps)

pub returns-clause-conditions : goal.returns-clause-conditions
returns-clause-conditions c = grind (arith, common_steps)

pub returns-clause-suppressions : goal.returns-clause-suppressions
returns-clause-suppressions c = grind (arith, common_steps)
