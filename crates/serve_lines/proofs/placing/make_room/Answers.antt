use Rattle.std.proofs.Common.{arith}
use Rattle.std.proofs.lemmas.Grind.{common_steps}
use Rattle.serve_lines.proofs.placing.make_room.Goals as goal

pub returns-clause-first : goal.returns-clause-first
returns-clause-first c = grind (arith, common_steps)

pub returns-clause-room : goal.returns-clause-room
returns-clause-room c = grind (arith, common_steps)
