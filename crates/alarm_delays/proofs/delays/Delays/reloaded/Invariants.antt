use Rattle.std.proofs.Common.{◌≡◌, ◌++◌, map, take, drop}
use Rattle.alarm_delays.specs.Delays.{kept_since}
use Rattle.alarm_delays.proofs.Keeping.{none_met}
use Rattle.alarm_delays.proofs.delays.Delays.reloaded.Given as goal

abbrev pub invariant-loop-at : goal.invariant-loop-at
invariant-loop-at l = record {
  since : l.made.since ≡ map (kept_since l.self.since) (take l.at l.kept) ++ none_met (drop l.at l.kept);
  delays : l.made.delays ≡ l.fn.delays.items;
  last : l.made.last ≡ l.self.last;
}
