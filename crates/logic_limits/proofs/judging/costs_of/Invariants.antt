use Rattle.std.proofs.Common.{◌≡◌, map, take}
use Rattle.logic_limits.specs.declared.measures.Counts.{Counts}
use Rattle.logic_limits.proofs.judging.costs_of.Given as goal

abbrev pub invariant-loop-program : goal.invariant-loop-program
invariant-loop-program l = l.costs.items ≡ map (λ (c : Counts). c.cost) (take l.program-index l.programs)
