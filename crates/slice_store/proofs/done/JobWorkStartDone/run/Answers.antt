use Rattle.std.proofs.Common.{arith}
use Rattle.std.proofs.lemmas.Grind.{common_steps}
use Rattle.slice_store.proofs.done.JobWorkStartDone.run.Goals as goal

pub invariant_of-result : goal.invariant_of-result
invariant_of-result c = grind (arith, common_steps)

pub returns : goal.returns
returns c = grind (arith, common_steps)

pub copy_from-requires-clause-values : goal.copy_from-requires-clause-values
copy_from-requires-clause-values c = grind (arith, common_steps)

pub copy_from-requires-clause-clocks : goal.copy_from-requires-clause-clocks
copy_from-requires-clause-clocks c = grind (arith, common_steps)
