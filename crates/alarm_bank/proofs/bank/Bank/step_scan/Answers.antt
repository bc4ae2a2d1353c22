use Rattle.std.proofs.Common.{List, length, ap, arith}
use Rattle.alarm_machine.specs.Alarms.{PlainAlarm}
use Rattle.alarm_bank.specs.Banks.{PlainBank}
use Rattle.alarm_bank.proofs.bank.Bank.step_scan.Goals as goal

pub moves_of-requires-clause-few : goal.moves_of-requires-clause-few
moves_of-requires-clause-few g c =
    let few = c.self.invariant.few in
    let inside = ap (λ (b : PlainBank). length b.alarms) c.self.view_is in
    let lent = ap (λ (l : List PlainAlarm). length l) c.alarms-2.ensures in
    omega (arith, few, inside, lent)
