use Rattle.std.proofs.Common.{◌≡◌, drop}
use Rattle.alarm_delays.specs.Delays.{have_none}
use Rattle.alarm_delays.proofs.delays.have_none.Given as goal

abbrev pub invariant-loop-delay : goal.invariant-loop-delay
invariant-loop-delay l = have_none (drop l.delay-index l.delays) ≡ have_none l.delays
