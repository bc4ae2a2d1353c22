use Rattle.std.proofs.Common.{◌≡◌, [], length}
use Rattle.try_twins.proofs.levels.run_levels.Given as goal

-- between two levels no job is out, and cells and flags are as many
abbrev pub invariant-loop-below : goal.invariant-loop-below
invariant-loop-below l = record {
  gathered : l.store.out ≡ [];
  values : length l.store.cells.values ≡ length l.fn.store.cells.values;
  clocks : length l.store.cells.clocks ≡ length l.fn.store.cells.clocks;
  flags : length l.store.faulted ≡ length l.fn.store.faulted;
}
