use Rattle.std.proofs.Common.{map, take}
use Rattle.crew.specs.Runs.{IsRisingBelow}
use Rattle.crew.proofs.work.numbers_rise.Given as goal

abbrev pub invariant-loop-job : goal.invariant-loop-job
invariant-loop-job g l = IsRisingBelow g.J.Work.number_of l.next (map g.J.Work.start_of (take l.job-index l.jobs))
