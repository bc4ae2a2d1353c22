use Rattle.std.proofs.Common.{arith}
use Rattle.std.proofs.lemmas.Grind.{common_steps}
use Rattle.slice_store.proofs.reserve.Reserve.keep_lists.Goals as goal

pub returns-clause-out : goal.returns-clause-out
returns-clause-out c = grind (arith, common_steps)
