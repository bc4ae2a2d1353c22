use Rattle.std.proofs.Common.{◌≡◌, drop, fold}
use Rattle.alarm_delays.specs.Delays.{last_conditions, put_since}
use Rattle.alarm_delays.proofs.delays.put_last.Given as goal

abbrev pub invariant-loop-number : goal.invariant-loop-number
invariant-loop-number l = fold (put_since l.moment) l.since (last_conditions (drop l.number-index l.moved)) ≡ fold (put_since l.moment) l.fn.since (last_conditions l.moved)
