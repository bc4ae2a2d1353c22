use Rattle.std.proofs.Common.{map}
use Rattle.standing_crew.specs.Assembled.{IsGathered}
use Rattle.standing_crew.proofs.standing.Standing.hear.Given as goal

abbrev pub invariant-loop : goal.invariant-loop
invariant-loop g l =
    (goal.iterator-loop g).can_next l.iterator' × (goal.iterator-loop g).is_finite l.iterator'
    × IsGathered l.starts l.gathered.fault l.gathered.ticks.items (map g.J.Work.ended_from l.gathered.runs.items)
