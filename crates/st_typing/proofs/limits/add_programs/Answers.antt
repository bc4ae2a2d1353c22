use Rattle.std.proofs.Common.{arith}
use Rattle.std.proofs.lemmas.Grind.{common_steps}
use Rattle.st_typing.proofs.limits.add_programs.Goals as goal

pub loop-pou-preserved : goal.loop-pou-preserved
loop-pou-preserved c = grind (arith, common_steps)

pub returns-then-total-eq-PROGRAMS-clause-many : goal.returns-then-total-eq-PROGRAMS-clause-many
returns-then-total-eq-PROGRAMS-clause-many c = grind (arith, common_steps)

pub returns-clause-few : goal.returns-clause-few
returns-clause-few c = grind (arith, common_steps)
