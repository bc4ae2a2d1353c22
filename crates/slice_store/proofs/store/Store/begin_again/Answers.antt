use Rattle.std.proofs.Common.{arith}
use Rattle.std.proofs.lemmas.Grind.{common_steps}
use Rattle.slice_store.proofs.store.Store.begin_again.Goals as goal

pub put_start-requires-clause-clocks : goal.put_start-requires-clause-clocks
put_start-requires-clause-clocks c = grind (arith, common_steps)

pub put_start-requires-clause-values : goal.put_start-requires-clause-values
put_start-requires-clause-values c = grind (arith, common_steps)
