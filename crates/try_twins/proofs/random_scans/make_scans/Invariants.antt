use Rattle.std.proofs.Common.{◌≡◌, length}
use Rattle.vm_logic.specs.Runs.{HasCells}
use Rattle.try_twins.proofs.random_scans.make_scans.Given as goal

-- the source has its cells and flags still
abbrev pub invariant-loop-made : goal.invariant-loop-made
invariant-loop-made l = record {
  ran : HasCells l.framed l.state.twin.ran;
  cells : HasCells l.framed l.state.cells;
  flags : length l.state.faulted.items ≡ length l.framed.programs;
}
