use Rattle.std.proofs.Common.{arith}
use Rattle.std.proofs.lemmas.Grind.{common_steps}
use Rattle.console_boards.proofs.board.taking.BoardAbsorbOperation.absorb_first.Goals as goal

pub returns-in-Mark-clause-absorbed : goal.returns-in-Mark-clause-absorbed
returns-in-Mark-clause-absorbed c = grind (arith, common_steps)

pub returns-in-Entry-clause-absorbed : goal.returns-in-Entry-clause-absorbed
returns-in-Entry-clause-absorbed c = grind (arith, common_steps)
