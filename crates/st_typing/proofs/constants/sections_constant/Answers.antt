use Rattle.std.proofs.Common.{arith}
use Rattle.std.proofs.lemmas.Grind.{common_steps}
use Rattle.st_typing.proofs.constants.sections_constant.Goals as goal

pub returns-then-not-section_constant : goal.returns-then-not-section_constant
returns-then-not-section_constant c = grind (arith, common_steps)

pub loop-section-preserved : goal.loop-section-preserved
loop-section-preserved c = grind (arith, common_steps)
