use Rattle.level_plan.specs.Tables.{IsRaised}
use Rattle.level_plan.proofs.Extents.{Between}
use Rattle.level_plan.proofs.tables.raise_at.Given as goal

abbrev pub invariant-loop-global : goal.invariant-loop-global
invariant-loop-global l = IsRaised (Between l.first l.global) l.level l.fn.levels l.levels
