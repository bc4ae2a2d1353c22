use Rattle.std.proofs.Common.{arith}
use Rattle.std.proofs.lemmas.Grind.{common_steps}
use Rattle.vm_sizes.proofs.lines.inputs_lines.Goals as goal

pub overflow_add-total : goal.overflow_add-total
overflow_add-total c = grind (arith, common_steps)

pub expr_lines-requires : goal.expr_lines-requires
expr_lines-requires c = grind (arith, common_steps)

pub overflow_add-total-in-Input : goal.overflow_add-total-in-Input
overflow_add-total-in-Input c = grind (arith, common_steps)

pub returns : goal.returns
returns c = grind (arith, common_steps)
