use Rattle.std.proofs.Common.{◌≡◌, min, take}
use Rattle.std.specs.List.{sum_by}
use Rattle.logic_limits.specs.declared.measures.Counts.{Counts}
use Rattle.logic_limits.proofs.judging.all_size.Given as goal

abbrev pub invariant-loop-program : goal.invariant-loop-program
invariant-loop-program l = l.total ≡ min (sum_by (λ (p : Counts). p.size) (take l.program-index l.programs)) 1000001
