use Rattle.console_link.specs.Seats.{SameConsole}
use Rattle.try_desks.proofs.duty.acknowledge.Given as goal

abbrev pub invariant-loop-number : goal.invariant-loop-number
invariant-loop-number l = SameConsole l.fn.console.link l.console.link
