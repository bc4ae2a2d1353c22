use Rattle.std.proofs.Common.{arith}
use Rattle.std.proofs.lemmas.Grind.{common_steps}
use Rattle.level_scans.proofs.parts.part_of.Goals as goal

pub returns-clause-slots : goal.returns-clause-slots
returns-clause-slots c = grind (arith, common_steps)

pub returns-clause-clocks : goal.returns-clause-clocks
returns-clause-clocks c = grind (arith, common_steps)
