use Rattle.std.proofs.Common.{◌≤◌}
use Rattle.try_stations.specs.Seated.{AreSame}
use Rattle.try_stations.proofs.looking.submit_all.Given as goal

abbrev pub invariant-loop : goal.invariant-loop
invariant-loop l = AreSame l.fn.consoles l.consoles × (l.submitted ≤ l.counter)
