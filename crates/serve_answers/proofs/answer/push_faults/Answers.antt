use Rattle.std.proofs.Common.{arith}
use Rattle.std.proofs.lemmas.Grind.{common_steps}
use Rattle.serve_answers.proofs.answer.push_faults.Goals as goal

pub returns : goal.returns
returns c = grind (arith, common_steps)
