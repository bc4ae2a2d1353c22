use Rattle.std.proofs.Common.{arith}
use Rattle.std.proofs.lemmas.Grind.{common_steps}
use Rattle.serve_answers.proofs.answer.push_alarms.Goals as goal

pub returns-then-is_empty : goal.returns-then-is_empty
returns-then-is_empty c = grind (arith, common_steps)

pub returns-in_default : goal.returns-in_default
returns-in_default c = grind (arith, common_steps)
