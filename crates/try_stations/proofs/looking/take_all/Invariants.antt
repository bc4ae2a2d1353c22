use Rattle.std.proofs.Common.{◌≤◌}
use Rattle.try_stations.specs.Seated.{AreSame}
use Rattle.try_stations.proofs.looking.take_all.Given as goal

abbrev pub invariant-loop : goal.invariant-loop
invariant-loop l = AreSame l.fn.consoles l.consoles × (l.taken ≤ l.counter)
