use Rattle.std.proofs.Common.{arith}
use Rattle.std.proofs.lemmas.Grind.{common_steps}
use Rattle.plant_config.proofs.limits.first_limit.Goals as goal

pub returns-then-consoles-gt-CONSOLES : goal.returns-then-consoles-gt-CONSOLES
returns-then-consoles-gt-CONSOLES c = grind (arith, common_steps)

pub returns : goal.returns
returns c = grind (arith, common_steps)

pub returns-then-areas-gt-AREAS : goal.returns-then-areas-gt-AREAS
returns-then-areas-gt-AREAS c = grind (arith, common_steps)

pub returns-then-is_too_long : goal.returns-then-is_too_long
returns-then-is_too_long c = grind (arith, common_steps)
