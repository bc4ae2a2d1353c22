use Rattle.std.proofs.Common.{arith}
use Rattle.std.proofs.lemmas.Grind.{common_steps}
use Rattle.standing_crew.proofs.gathered.take_in.Goals as goal

pub add_runs-requires-clause-ticked : goal.add_runs-requires-clause-ticked
add_runs-requires-clause-ticked g c = grind (arith, common_steps)
