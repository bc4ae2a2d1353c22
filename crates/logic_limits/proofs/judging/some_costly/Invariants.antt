use Rattle.std.proofs.Common.{◌≡◌, drop}
use Rattle.std.specs.Prelude.{nat_lt}
use Rattle.std.specs.List.{list_any}
use Rattle.logic_limits.specs.declared.measures.Counts.{Counts}
use Rattle.logic_limits.proofs.judging.some_costly.Given as goal

abbrev pub invariant-loop-program : goal.invariant-loop-program
invariant-loop-program l = list_any (λ (p : Counts). nat_lt 2000000 p.cost) (drop l.program-index l.programs) ≡ list_any (λ (p : Counts). nat_lt 2000000 p.cost) l.programs
