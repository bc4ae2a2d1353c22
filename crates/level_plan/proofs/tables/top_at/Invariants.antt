use Rattle.std.proofs.Common.{take}
use Rattle.level_plan.specs.Accesses.{HaveGlobal}
use Rattle.level_plan.specs.Tables.{IsTop}
use Rattle.level_plan.proofs.tables.top_at.Given as goal

abbrev pub invariant-loop-extent : goal.invariant-loop-extent
invariant-loop-extent l = IsTop (HaveGlobal (take l.extent-index l.extents)) l.levels l.top
