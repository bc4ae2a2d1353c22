use Rattle.std.proofs.Common.{◌≡◌, map, take}
use Rattle.crew.proofs.starts.starts_of.Given as goal

abbrev pub invariant-loop-job : goal.invariant-loop-job
invariant-loop-job g l = l.starts.items ≡ map g.J.Work.start_of (take l.job-index l.jobs)
