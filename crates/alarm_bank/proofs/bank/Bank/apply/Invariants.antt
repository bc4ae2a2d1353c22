use Rattle.std.proofs.Common.{◌≡◌, drop}
use Rattle.alarm_bank.specs.Moves.{put_all}
use Rattle.alarm_bank.proofs.bank.Bank.apply.Given as goal

abbrev pub invariant-loop-number : goal.invariant-loop-number
invariant-loop-number l = record {
  put : put_all l.self.alarms (drop l.number-index l.moved) ≡ put_all l.fn.self.alarms l.moved;
  sites : l.self.sites ≡ l.fn.self.sites;
  moment : l.self.moment ≡ l.fn.self.moment;
}
