use Rattle.std.proofs.Common.{arith}
use Rattle.std.proofs.lemmas.Grind.{common_steps}
use Rattle.serve_answers.proofs.answer.put_outs.Goals as goal

pub loop-output-preserved : goal.loop-output-preserved
loop-output-preserved c = grind (arith, common_steps)

pub loop-output-init : goal.loop-output-init
loop-output-init c = grind (arith, common_steps)

pub returns : goal.returns
returns c = grind (arith, common_steps)
