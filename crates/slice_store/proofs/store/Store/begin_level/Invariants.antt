use Rattle.std.specs.Arc.{arc_value}
use Rattle.slice_store.specs.Splits.{AreJobsBefore}
use Rattle.slice_store.proofs.store.Store.begin_level.Given as goal

abbrev pub invariant-loop-p : goal.invariant-loop-p
invariant-loop-p l = AreJobsBefore (arc_value l.parts) l.levels l.level l.self l.p l.jobs.items
