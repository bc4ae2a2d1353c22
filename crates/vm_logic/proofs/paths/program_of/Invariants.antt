use Rattle.std.proofs.Common.{◌≤◌, ◌<◌, ◌-◌, get_or}
use Rattle.vm_logic.proofs.paths.program_of.Given as goal

abbrev pub invariant-loop-program : goal.invariant-loop-program
invariant-loop-program l = record {
  there : l.program < l.programs;
  begins : get_or l.bases l.program 0 ≤ l.path;
}

abbrev pub decreases-loop-program : goal.decreases-loop-program
decreases-loop-program l = l.programs - l.program
