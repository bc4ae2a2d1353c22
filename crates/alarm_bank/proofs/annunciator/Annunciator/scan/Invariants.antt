use Rattle.std.proofs.Common.{◌≡◌, ◌++◌, length, drop, take}
use Rattle.alarm_bank.specs.Banks.{scan_each}
use Rattle.alarm_bank.proofs.annunciator.Annunciator.scan.Given as goal

abbrev pub invariant-loop-at : goal.invariant-loop-at
invariant-loop-at l = record {
  stepped : take l.at l.self.bank.alarms ++ scan_each (drop l.at l.conds) (drop l.at l.sups) l.moment (drop l.at l.self.bank.alarms) ≡ scan_each l.conds l.sups l.moment l.fn.self.bank.alarms;
  count : length l.self.bank.alarms ≡ length l.fn.self.bank.alarms;
  sites : l.self.bank.sites ≡ l.fn.self.bank.sites;
  moment : l.self.bank.moment ≡ l.fn.self.bank.moment;
  places : l.self.places ≡ l.fn.self.places;
}
