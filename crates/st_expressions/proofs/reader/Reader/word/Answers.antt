use Rattle.std.proofs.Common.{arith}
use Rattle.std.proofs.lemmas.Grind.{common_steps}
use Rattle.st_expressions.proofs.reader.Reader.word.Goals as goal

pub returns-in_default-kind : goal.returns-in_default-kind
returns-in_default-kind c = grind (arith, common_steps)

pub returns-in_default : goal.returns-in_default
returns-in_default c = grind (arith, common_steps)
