use Rattle.std.proofs.Common.{arith}
use Rattle.std.proofs.lemmas.Grind.{common_steps}
use Rattle.slice_store.proofs.store.start_of.Goals as goal

pub returns : goal.returns
returns c = grind (arith, common_steps)

pub new-requires-clause-runs : goal.new-requires-clause-runs
new-requires-clause-runs c = grind (arith, common_steps)

pub new-requires-clause-there : goal.new-requires-clause-there
new-requires-clause-there c = grind (arith, common_steps)
