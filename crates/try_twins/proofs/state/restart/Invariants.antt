use Rattle.std.proofs.Common.{◌≡◌, length}
use Rattle.try_twins.proofs.state.restart.Given as goal

-- there are as many flags
abbrev pub invariant-loop-program : goal.invariant-loop-program
invariant-loop-program l = record {
  end : l.program-end ≡ length l.fn.faulted.items;
  same : length l.faulted.items ≡ length l.fn.faulted.items;
}
