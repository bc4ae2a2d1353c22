use Rattle.std.proofs.Common.{arith}
use Rattle.std.proofs.lemmas.Grind.{common_steps}
use Rattle.slice_store.proofs.done.JobWorkStartDone.is_run_of.Goals as goal

pub returns : goal.returns
returns c = grind (arith, common_steps)
