use Rattle.std.proofs.Common.{◌≡◌, map, take}
use Rattle.logic_source.specs.declared.logic.Routine.{Routine}
use Rattle.logic_source.specs.Source.{view_routine}
use Rattle.logic_limits.specs.Measures.{counts_by}
use Rattle.logic_limits.proofs.counting.count_programs.Given as goal

abbrev pub invariant-loop-program : goal.invariant-loop-program
invariant-loop-program l = l.list.items ≡ map (λ (r : Routine). counts_by l.table.items (view_routine r)) (take l.program-index l.logic.programs.items)
