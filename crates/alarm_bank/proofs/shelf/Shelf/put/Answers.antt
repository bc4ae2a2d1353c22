use Rattle.std.proofs.Common.{arith}
use Rattle.std.proofs.lemmas.Grind.{common_steps}
use Rattle.alarm_bank.proofs.shelf.Shelf.put.Goals as goal

pub index_mut-requires : goal.index_mut-requires
index_mut-requires c = grind (arith, common_steps)

pub returns-then-index-number : goal.returns-then-index-number
returns-then-index-number c = grind (arith, common_steps)

pub mend-requires-clause-place : goal.mend-requires-clause-place
mend-requires-clause-place c = grind (arith, common_steps)

pub mend-requires-clause-few : goal.mend-requires-clause-few
mend-requires-clause-few c = grind (arith, common_steps)

pub invariant_of-self : goal.invariant_of-self
invariant_of-self c = grind (arith, common_steps)

pub mend-requires-clause-tree : goal.mend-requires-clause-tree
mend-requires-clause-tree c = grind (arith, common_steps)

pub index-requires : goal.index-requires
index-requires c = grind (arith, common_steps)
