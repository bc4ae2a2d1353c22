use Rattle.std.proofs.Common.{take}
use Rattle.slice_store.specs.Level.{TakesRuns}
use Rattle.slice_store.proofs.store.take_all.Given as goal

abbrev pub invariant-loop-done : goal.invariant-loop-done
invariant-loop-done l = TakesRuns (record { values = l.fn.values; clocks = l.fn.clocks }) l.fn.faulted (take l.done-index l.runs) (record { values = l.values; clocks = l.clocks }) l.faulted
