use Rattle.std.proofs.Common.{◌≡◌, length}
use Rattle.vm_logic.specs.Runs.{HasCells}
use Rattle.try_twins.proofs.scans.run_programs.Given as goal

-- the source has its cells still
abbrev pub invariant-loop-program : goal.invariant-loop-program
invariant-loop-program l = record {
  end : l.program-end ≡ length l.framed.programs;
  cells : HasCells l.framed l.twin.ran;
}
