use Rattle.std.proofs.Common.{take}
use Rattle.level_runs.specs.Accesses.{AreGlobalsOf}
use Rattle.level_runs.proofs.planning.globals_among.Given as goal

abbrev pub invariant-loop-slot : goal.invariant-loop-slot
invariant-loop-slot l = AreGlobalsOf l.globals (take l.slot-index l.slots) l.extents.items
