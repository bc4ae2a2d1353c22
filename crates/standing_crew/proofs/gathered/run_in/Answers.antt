use Rattle.std.proofs.Common.{arith}
use Rattle.std.proofs.lemmas.Grind.{common_steps}
use Rattle.standing_crew.proofs.gathered.run_in.Goals as goal

pub run_more-requires-clause-ticked : goal.run_more-requires-clause-ticked
run_more-requires-clause-ticked g c = grind (arith, common_steps)
