use Rattle.std.proofs.Common.{arith}
use Rattle.std.proofs.lemmas.Grind.{common_steps}
use Rattle.slice_store.proofs.store.put_start.Goals as goal

pub returns : goal.returns
returns c = grind (arith, common_steps)

pub start_of-requires-clause-values : goal.start_of-requires-clause-values
start_of-requires-clause-values c = grind (arith, common_steps)

pub start_of-requires-clause-clocks : goal.start_of-requires-clause-clocks
start_of-requires-clause-clocks c = grind (arith, common_steps)

pub returns-then-branch : goal.returns-then-branch
returns-then-branch c = grind (arith, common_steps)
