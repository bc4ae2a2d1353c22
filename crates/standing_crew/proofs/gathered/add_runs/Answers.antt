use Rattle.std.proofs.Common.{arith}
use Rattle.std.proofs.lemmas.Grind.{common_steps}
use Rattle.standing_crew.proofs.gathered.add_runs.Goals as goal

pub tick_rest-requires-clause-ticked : goal.tick_rest-requires-clause-ticked
tick_rest-requires-clause-ticked g c = grind (arith, common_steps)

pub tick_rest-requires-clause-before : goal.tick_rest-requires-clause-before
tick_rest-requires-clause-before g c = grind (arith, common_steps)

pub tick_rest-requires-clause-distinct : goal.tick_rest-requires-clause-distinct
tick_rest-requires-clause-distinct g c = grind (arith, common_steps)
