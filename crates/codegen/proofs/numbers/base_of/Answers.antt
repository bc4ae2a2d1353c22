use Rattle.std.proofs.Common.{arith}
use Rattle.codegen.proofs.numbers.base_of.Goals as goal

pub returns-clause-room : goal.returns-clause-room
returns-clause-room c calls h = (omega (arith, h.0), omega (arith, h.1))
