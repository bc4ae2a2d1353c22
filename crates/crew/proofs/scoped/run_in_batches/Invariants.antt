use Rattle.std.proofs.Common.{◌≡◌, ◌++◌, map, vec_len}
use Rattle.crew.proofs.scoped.run_in_batches.Given as goal

abbrev pub invariant-loop-left : goal.invariant-loop-left
invariant-loop-left g l = map g.J.Work.ended_from l.runs.items ++ map g.J.Work.start_of l.left.items ≡ map g.J.Work.start_of l.fn.jobs.items

abbrev pub decreases-loop-left : goal.decreases-loop-left
decreases-loop-left g l = vec_len l.left
