use Rattle.std.proofs.Common.{map, ap}
use Rattle.alarm_machine.specs.Alarms.{PlainAlarm, end_of}
use Rattle.alarm_bank.specs.Banks.{PlainBank, end_or_never}
use Rattle.alarm_bank.specs.Shelves.{IsLeastOf}
use Rattle.alarm_bank.proofs.BankLaws.{next_some, next_none}
use Rattle.alarm_bank.proofs.bank.Bank.next_end.Goals as goal

pub returns-then-least-clause-none : goal.returns-then-least-clause-none
returns-then-least-clause-none c =
    let l : IsLeastOf 18446744073709551615 c.least-least.result (map (λ (a : PlainAlarm). end_or_never (end_of a.state)) c.self.inside.alarms.items) = rw (← c.self.invariant.ends_are) c.least-least.ensures in
    rw (← ap (λ (w : PlainBank). w.alarms) c.self.view_is) (next_none _ _ c.if-least.true c.self.invariant.in_time l)

pub returns-else-least-clause-some : goal.returns-else-least-clause-some
returns-else-least-clause-some c =
    let l : IsLeastOf 18446744073709551615 c.least-least.result (map (λ (a : PlainAlarm). end_or_never (end_of a.state)) c.self.inside.alarms.items) = rw (← c.self.invariant.ends_are) c.least-least.ensures in
    rw (← ap (λ (w : PlainBank). w.alarms) c.self.view_is) (next_some _ _ c.self.invariant.in_time l c.if-least.false)
