use Rattle.std.proofs.Common.{take}
use Rattle.level_jobs.specs.Spotted.{Tell}
use Rattle.level_jobs.proofs.running.faults_of.Given as goal

abbrev pub invariant-loop-done : goal.invariant-loop-done
invariant-loop-done l = Tell (take l.done-index l.runs) l.faults.items
