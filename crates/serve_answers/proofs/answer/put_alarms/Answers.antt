use Rattle.std.proofs.Common.{arith}
use Rattle.std.proofs.lemmas.Grind.{common_steps}
use Rattle.serve_answers.proofs.answer.put_alarms.Goals as goal

pub loop-alarm-preserved : goal.loop-alarm-preserved
loop-alarm-preserved c = grind (arith, common_steps)

pub loop-alarm-init : goal.loop-alarm-init
loop-alarm-init c = grind (arith, common_steps)

pub returns : goal.returns
returns c = grind (arith, common_steps)
