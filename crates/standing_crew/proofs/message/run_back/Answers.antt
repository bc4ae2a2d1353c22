use Rattle.std.proofs.Common.{arith}
use Rattle.std.proofs.lemmas.Grind.{common_steps}
use Rattle.standing_crew.proofs.message.run_back.Goals as goal

pub returns-then-is_err-2 : goal.returns-then-is_err-2
returns-then-is_err-2 g c = grind (arith, common_steps)

pub loop-job-preserved : goal.loop-job-preserved
loop-job-preserved g c = grind (arith, common_steps)

pub returns-then-is_err : goal.returns-then-is_err
returns-then-is_err g c = grind (arith, common_steps)

pub loop-job-init : goal.loop-job-init
loop-job-init g c = grind (arith, common_steps)
