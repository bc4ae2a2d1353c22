use Rattle.std.proofs.Common.{arith}
use Rattle.std.proofs.lemmas.Grind.{common_steps}
use Rattle.standing_crew.proofs.standing.Standing.gather.Goals as goal

pub run_parcel-requires-clause-distinct : goal.run_parcel-requires-clause-distinct
run_parcel-requires-clause-distinct g c = grind (arith, common_steps)

pub hear-requires-clause-ticked : goal.hear-requires-clause-ticked
hear-requires-clause-ticked g c = grind (arith, common_steps)

pub take_answers-requires-clause-distinct : goal.take_answers-requires-clause-distinct
take_answers-requires-clause-distinct g c = grind (arith, common_steps)
