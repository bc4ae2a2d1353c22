use Rattle.std.proofs.Common.{arith}
use Rattle.std.proofs.lemmas.Grind.{common_steps}
use Rattle.st_expressions.proofs.reader.Reader.stop.Goals as goal

pub returns : goal.returns
returns c = grind (arith, common_steps)
