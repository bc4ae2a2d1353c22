use Rattle.std.proofs.Common.{◌∙◌}
use Rattle.codegen.proofs.Parts.{part_lines}
use Rattle.codegen.proofs.Frames.{part_long}
use Rattle.codegen.proofs.Sizes.{lines_few}
use Rattle.codegen.proofs.laws.frame_code_is_as_long.Goals as goal

pub returns : goal.returns
returns c = λ globals frames limit k base path pc. (part_long globals frames limit k base path pc ∙ part_lines globals frames limit k, lines_few frames limit k)
