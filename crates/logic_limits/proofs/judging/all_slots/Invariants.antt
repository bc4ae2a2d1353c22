use Rattle.std.proofs.Common.{◌≡◌, ◌+◌, min, take, length}
use Rattle.std.specs.List.{sum_by}
use Rattle.logic_source.specs.Source.{row_cells}
use Rattle.logic_limits.specs.declared.measures.Counts.{Counts}
use Rattle.logic_limits.proofs.judging.all_slots.Given as goal

abbrev pub invariant-loop-program : goal.invariant-loop-program
invariant-loop-program l = l.total ≡ min (length l.logic.globals.items + row_cells l.logic.rows.items + sum_by (λ (p : Counts). p.slots) (take l.program-index l.programs)) 65537
