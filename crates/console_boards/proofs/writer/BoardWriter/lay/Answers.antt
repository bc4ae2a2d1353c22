use Rattle.std.proofs.Common.{arith}
use Rattle.std.proofs.lemmas.Grind.{common_steps}
use Rattle.console_boards.proofs.writer.BoardWriter.lay.Goals as goal

pub invariant_of-self-then-add : goal.invariant_of-self-then-add
invariant_of-self-then-add c = grind (arith, common_steps)

pub invariant_of-self-2 : goal.invariant_of-self-2
invariant_of-self-2 c = grind (arith, common_steps)

pub invariant_of-self : goal.invariant_of-self
invariant_of-self c = grind (arith, common_steps)
