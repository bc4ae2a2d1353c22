use Rattle.std.proofs.Common.{arith}
use Rattle.std.proofs.lemmas.Grind.{common_steps}
use Rattle.slice_store.proofs.Taking.{ready_empty}
use Rattle.slice_store.proofs.store.Store.of.Goals as goal

pub invariant_of-result : goal.invariant_of-result
invariant_of-result c = rw (c.new.ensures.items, c.new-2.ensures.items) (ready_empty _ _ _)

pub returns : goal.returns
returns c = grind (arith, common_steps)
