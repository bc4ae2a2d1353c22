use Rattle.std.proofs.Common.{arith}
use Rattle.std.proofs.lemmas.Grind.{common_steps}
use Rattle.serve_lines.proofs.placing.put_alarm.Goals as goal

pub returns : goal.returns
returns c = grind (arith, common_steps)
