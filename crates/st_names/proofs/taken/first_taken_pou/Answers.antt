use Rattle.std.proofs.Common.{arith}
use Rattle.std.proofs.lemmas.Grind.{common_steps}
use Rattle.st_names.proofs.taken.first_taken_pou.Goals as goal

pub returns-then-branch : goal.returns-then-branch
returns-then-branch c = grind (arith, common_steps)

pub returns : goal.returns
returns c = grind (arith, common_steps)
