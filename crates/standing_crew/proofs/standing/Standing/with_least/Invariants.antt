use Rattle.standing_crew.specs.Standings.{IsNew}
use Rattle.standing_crew.proofs.standing.Standing.with_least.Given as goal

abbrev pub invariant-loop : goal.invariant-loop
invariant-loop g l = IsNew l.workers l.standing
