use Rattle.std.proofs.Common.{vec_len, ◌≡◌, length, take}
use Rattle.standing_crew.proofs.message.run_back.Given as goal

abbrev pub invariant-loop-job : goal.invariant-loop-job
invariant-loop-job g l = take (length l.fn.runs.items) l.runs.items ≡ l.fn.runs.items

abbrev pub decreases-loop-job : goal.decreases-loop-job
decreases-loop-job g l = vec_len l.jobs
