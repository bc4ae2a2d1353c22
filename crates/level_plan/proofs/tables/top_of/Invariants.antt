use Rattle.level_plan.specs.Tables.{IsTop}
use Rattle.level_plan.proofs.Extents.{Between}
use Rattle.level_plan.proofs.tables.top_of.Given as goal

abbrev pub invariant-loop-global : goal.invariant-loop-global
invariant-loop-global l = IsTop (Between l.first l.global) l.levels l.top
