use Rattle.std.proofs.Common.{◌≡◌, length}
use Rattle.vm_logic.specs.Runs.{HasCells}
use Rattle.try_twins.proofs.rows.gather_levels.Given as goal

-- the source has its cells and flags still
abbrev pub invariant-loop-words : goal.invariant-loop-words
invariant-loop-words l = record {
  ran : HasCells l.framed l.state.twin.ran;
  cells : HasCells l.framed l.state.cells;
  flags : length l.state.faulted.items ≡ length l.framed.programs;
}
