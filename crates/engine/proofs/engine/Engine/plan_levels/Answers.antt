use Rattle.std.proofs.Common.{arith}
use Rattle.std.proofs.lemmas.Grind.{common_steps}
use Rattle.engine.proofs.engine.Engine.plan_levels.Goals as goal

pub invariant_of-self : goal.invariant_of-self
invariant_of-self c = grind (arith, common_steps)

pub plan_levels-requires : goal.plan_levels-requires
plan_levels-requires c = grind (arith, common_steps)
