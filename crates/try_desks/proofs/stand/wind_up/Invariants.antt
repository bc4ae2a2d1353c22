use Rattle.console_link.specs.Seats.{SameConsole}
use Rattle.try_desks.proofs.stand.wind_up.Given as goal

abbrev pub invariant-loop : goal.invariant-loop
invariant-loop l = SameConsole l.fn.console.link l.console.link
