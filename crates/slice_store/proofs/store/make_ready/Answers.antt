use Rattle.std.proofs.Common.{arith}
use Rattle.std.proofs.lemmas.Grind.{common_steps}
use Rattle.slice_store.proofs.store.make_ready.Goals as goal

pub returns-in_ok-resize-clause-ready : goal.returns-in_ok-resize-clause-ready
returns-in_ok-resize-clause-ready c = grind (arith, common_steps)

pub returns-else-len-words-clause-ready : goal.returns-else-len-words-clause-ready
returns-else-len-words-clause-ready c = grind (arith, common_steps)
