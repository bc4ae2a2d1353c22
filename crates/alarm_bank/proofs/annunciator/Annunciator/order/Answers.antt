use Rattle.std.proofs.Common.{◌≡◌, Some, Ok, Err, slice_get, length, ap, refl, arith}
use Rattle.std.proofs.lemmas.Grind.{common_steps}
use Rattle.std.proofs.lemmas.Option.{slice_get_read}
use Rattle.alarm_machine.specs.Alarms.{AnswersOrder, after_order}
use Rattle.alarm_bank.specs.Banks.{PlainBank}
use Rattle.alarm_bank.specs.Reloads.{PlainAnnunciator}
use Rattle.alarm_bank.proofs.BankLaws.{order_ok, order_err}
use Rattle.alarm_bank.proofs.annunciator.Annunciator.order.Goals as goal

pub returns-in-Ok : goal.returns-in-Ok
returns-in-Ok c =
    let found : slice_get c.self.inside.alarms.items c.args.alarm ≡ Some c.in-Some.found.now =
    rw (← c.deref.ensures.value) (slice_get_read c.deref.result.now (length c.deref.result.now) c.args.alarm c.in-Some.found.now refl c.in-Some.ensures.lookup.3.0 c.in-Some.ensures.lookup.1) in
    let found_now : slice_get c.args.self.now.bank.alarms c.args.alarm ≡ Some c.in-Some.found.now = rw (← c.self.view_is) found in
    let answered_now : AnswersOrder (after_order c.args.verb c.args.self.now.bank.moment c.in-Some.found.now) c.in-Some.found.now c.order.new.self (Ok c.in-Ok.field-0) = rw (← ap (λ (w : PlainAnnunciator). w.bank.moment) c.self.view_is) c.in-Ok.ensures in
    rw c.put.ensures (ap (λ (b : PlainBank). record { bank = b; places = c.args.self.now.places }) (order_ok c.args.self.now.bank c.args.alarm c.args.verb c.in-Some.found.now c.order.new.self c.in-Ok.field-0 found_now answered_now))

pub returns-in-Err : goal.returns-in-Err
returns-in-Err c =
    let found : slice_get c.self.inside.alarms.items c.args.alarm ≡ Some c.in-Some.found.now =
    rw (← c.deref.ensures.value) (slice_get_read c.deref.result.now (length c.deref.result.now) c.args.alarm c.in-Some.found.now refl c.in-Some.ensures.lookup.3.0 c.in-Some.ensures.lookup.1) in
    let found_now : slice_get c.args.self.now.bank.alarms c.args.alarm ≡ Some c.in-Some.found.now = rw (← c.self.view_is) found in
    let answered_now : AnswersOrder (after_order c.args.verb c.args.self.now.bank.moment c.in-Some.found.now) c.in-Some.found.now c.order.new.self (Err c.in-Err.field-0) = rw (← ap (λ (w : PlainAnnunciator). w.bank.moment) c.self.view_is) c.in-Err.ensures in
    ap (λ (b : PlainBank). record { bank = b; places = c.args.self.now.places }) (order_err c.args.self.now.bank c.args.alarm c.args.verb c.in-Some.found.now c.order.new.self c.in-Err.field-0 found_now answered_now)

pub returns-in_default : goal.returns-in_default
returns-in_default c = grind (arith, common_steps)

pub put-requires : goal.put-requires
put-requires c = grind (arith, common_steps)
