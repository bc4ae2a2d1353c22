use Rattle.std.proofs.Common.{take}
use Rattle.level_plan.specs.Accesses.{HaveGlobal}
use Rattle.level_plan.specs.Tables.{IsRaised}
use Rattle.level_plan.proofs.tables.raise.Given as goal

abbrev pub invariant-loop-extent : goal.invariant-loop-extent
invariant-loop-extent l = IsRaised (HaveGlobal (take l.extent-index l.extents)) l.level l.fn.levels l.levels
