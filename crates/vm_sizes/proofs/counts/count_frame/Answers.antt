use Rattle.std.proofs.Common.{arith}
use Rattle.std.proofs.lemmas.Grind.{common_steps}
use Rattle.vm_sizes.proofs.counts.count_frame.Goals as goal

pub returns : goal.returns
returns c = grind (arith, common_steps)

pub body_lines-lines-requires : goal.body_lines-lines-requires
body_lines-lines-requires c = grind (arith, common_steps)
