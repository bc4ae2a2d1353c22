use Rattle.std.proofs.Common.{◌≡◌, ◌++◌, length, drop, take}
use Rattle.alarm_bank.specs.Banks.{scan_each}
use Rattle.alarm_bank.proofs.bank.Bank.scan.Given as goal

abbrev pub invariant-loop-at : goal.invariant-loop-at
invariant-loop-at l = record {
  stepped : take l.at l.self.alarms ++ scan_each (drop l.at l.conds) (drop l.at l.sups) l.moment (drop l.at l.self.alarms) ≡ scan_each l.conds l.sups l.moment l.fn.self.alarms;
  count : length l.self.alarms ≡ length l.fn.self.alarms;
  sites : l.self.sites ≡ l.fn.self.sites;
  moment : l.self.moment ≡ l.fn.self.moment;
}
