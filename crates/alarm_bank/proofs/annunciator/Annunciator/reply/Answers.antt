use Rattle.std.proofs.Common.{◌≡◌, Some, None, slice_get, length, ap, refl}
use Rattle.std.proofs.lemmas.Option.{slice_get_read, slice_get_past}
use Rattle.alarm_machine.specs.Alarms.{AnswersOrder, after_order}
use Rattle.alarm_bank.specs.Banks.{reply_of}
use Rattle.alarm_bank.specs.Reloads.{PlainAnnunciator}
use Rattle.alarm_bank.proofs.BankLaws.{replied}
use Rattle.alarm_bank.proofs.annunciator.Annunciator.reply.Goals as goal

pub returns-in-Some : goal.returns-in-Some
returns-in-Some c =
    let found : slice_get c.self.inside.alarms.items c.args.alarm ≡ Some c.in-Some.found.now =
    rw (← c.deref.ensures.value) (slice_get_read c.deref.result.now (length c.deref.result.now) c.args.alarm c.in-Some.found.now refl c.in-Some.ensures.lookup.3.0 c.in-Some.ensures.lookup.1) in
    let found_now : slice_get c.args.self.now.bank.alarms c.args.alarm ≡ Some c.in-Some.found.now = rw (← c.self.view_is) found in
    let answered_now : AnswersOrder (after_order c.args.verb c.args.self.now.bank.moment c.in-Some.found.now) c.in-Some.found.now c.order.new.self c.order.result = rw (← ap (λ (w : PlainAnnunciator). w.bank.moment) c.self.view_is) c.order.ensures in
    replied c.args.self.now.bank c.args.alarm c.args.verb c.in-Some.found.now c.order.new.self c.order.result found_now answered_now

pub returns-in-None : goal.returns-in-None
returns-in-None c =
    let none : slice_get c.self.inside.alarms.items c.args.alarm ≡ None =
    rw (← c.deref.ensures.value) (slice_get_past _ _ c.in-None.ensures.lookup.3) in
    let none_now : slice_get c.args.self.now.bank.alarms c.args.alarm ≡ None = rw (← c.self.view_is) none in rw (none_now, reply_of) refl
