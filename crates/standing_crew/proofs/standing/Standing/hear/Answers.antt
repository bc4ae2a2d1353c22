use Rattle.std.proofs.Common.{arith}
use Rattle.std.proofs.lemmas.Grind.{common_steps}
use Rattle.standing_crew.proofs.standing.Standing.hear.Goals as goal

pub take_answer-requires-clause-distinct : goal.take_answer-requires-clause-distinct
take_answer-requires-clause-distinct g c = grind (arith, common_steps)

pub returns : goal.returns
returns g c = grind (arith, common_steps)
