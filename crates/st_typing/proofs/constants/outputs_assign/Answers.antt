use Rattle.std.proofs.Common.{arith}
use Rattle.std.proofs.lemmas.Grind.{common_steps}
use Rattle.st_typing.proofs.constants.outputs_assign.Goals as goal

pub returns-then-same_word : goal.returns-then-same_word
returns-then-same_word c = grind (arith, common_steps)

pub loop-argument-preserved : goal.loop-argument-preserved
loop-argument-preserved c = grind (arith, common_steps)
