use Rattle.std.proofs.Common.{arith}
use Rattle.std.proofs.lemmas.Grind.{common_steps}
use Rattle.slice_store.proofs.store.renewed.Goals as goal

pub returns-in-Some-clause-put : goal.returns-in-Some-clause-put
returns-in-Some-clause-put c = grind (arith, common_steps)

pub returns-in-None-clause-put : goal.returns-in-None-clause-put
returns-in-None-clause-put c = grind (arith, common_steps)

pub renew-requires-clause-runs : goal.renew-requires-clause-runs
renew-requires-clause-runs c = grind (arith, common_steps)

pub renew-requires-clause-there : goal.renew-requires-clause-there
renew-requires-clause-there c = grind (arith, common_steps)
