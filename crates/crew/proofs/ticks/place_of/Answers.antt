use Rattle.std.proofs.Common.{arith}
use Rattle.std.proofs.lemmas.Grind.{common_steps}
use Rattle.crew.proofs.ticks.place_of.Goals as goal

pub returns-then-is_run_of : goal.returns-then-is_run_of
returns-then-is_run_of g c = grind (arith, common_steps)
