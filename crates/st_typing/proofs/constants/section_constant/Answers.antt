use Rattle.std.proofs.Common.{arith}
use Rattle.std.proofs.lemmas.Grind.{common_steps}
use Rattle.st_typing.proofs.constants.section_constant.Goals as goal

pub returns-then-not-declaration_constant : goal.returns-then-not-declaration_constant
returns-then-not-declaration_constant c = grind (arith, common_steps)

pub loop-declaration-preserved : goal.loop-declaration-preserved
loop-declaration-preserved c = grind (arith, common_steps)

pub returns : goal.returns
returns c = grind (arith, common_steps)
