use Rattle.std.proofs.Common.{refl, arith}
use Rattle.std.proofs.lemmas.Grind.{common_steps}
use Rattle.standing_crew.proofs.gathered.tick_rest.Goals as goal

pub returns-else-not-tick_off : goal.returns-else-not-tick_off
returns-else-not-tick_off g c = grind (arith, common_steps)

pub tick_off-requires-clause-ticked : goal.tick_off-requires-clause-ticked
tick_off-requires-clause-ticked g c = grind (arith, common_steps)

pub returns-then-not-tick_off-clause-gathered : goal.returns-then-not-tick_off-clause-gathered
returns-then-not-tick_off-clause-gathered g c = rw (← c.as_slice-runs.ensures.value) (c.if-not-tick_off.ensures.misfit refl)
