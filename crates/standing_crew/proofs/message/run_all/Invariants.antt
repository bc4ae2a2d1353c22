use Rattle.std.proofs.Common.{◌≡◌, ◌++◌, map}
use Rattle.standing_crew.proofs.message.run_all.Given as goal

abbrev pub invariant-loop-job : goal.invariant-loop-job
invariant-loop-job g l = map g.J.Work.ended_from l.runs.items ≡ map g.J.Work.ended_from l.fn.runs.items ++ map g.J.Work.start_of l.yielded
