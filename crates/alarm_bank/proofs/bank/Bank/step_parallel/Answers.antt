use Rattle.std.proofs.Common.{◌∙◌, ap, sym}
use Rattle.alarm_bank.specs.declared.event.BankEvent.{BankEvent}
use Rattle.alarm_bank.specs.Banks.{PlainBank, after_event}
use Rattle.alarm_bank.specs.Moves.{changes_from, told_change}
use Rattle.alarm_bank.proofs.OrderLaws.{changes_none, order_told}
use Rattle.alarm_bank.proofs.bank.Bank.step_parallel.Goals as goal

pub returns-then-given-count-clause-changes : goal.returns-then-given-count-clause-changes
returns-then-given-count-clause-changes g c = c.new.ensures.items ∙ changes_none 0 c.args.self.now.alarms

pub returns-in_ok-changes-in-Order-clause-changes :
    goal.returns-in_ok-changes-in-Order-clause-changes
returns-in_ok-changes-in-Order-clause-changes g c =
    let bank = c.args.self.now in
    c.in_ok-changes-in-Order.ensures ∙ ap (told_change c.in-Order.alarm) c.reply.ensures ∙ order_told bank c.in-Order.alarm c.in-Order.verb
    ∙ ap (λ (e : BankEvent). changes_from 0 bank.alarms (after_event e bank).alarms) (sym c.in-Order.is) ∙ ap (λ (b : PlainBank). changes_from 0 bank.alarms b.alarms) (sym c.advance.ensures)

pub returns-in-Reload-clause-changes : goal.returns-in-Reload-clause-changes
returns-in-Reload-clause-changes g c = c.new-in-Reload.ensures.items ∙ changes_none 0 c.args.self.now.alarms
