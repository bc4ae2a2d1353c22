use Rattle.std.proofs.Common.{◌≡◌, ◌<◌, Some, length, slice_get, arith, ap}
use Rattle.std.proofs.lemmas.Grind.{common_steps}
use Rattle.std.proofs.lemmas.Option.{slice_get_read}
use Rattle.alarm_bank.specs.Banks.{PlainBank}
use Rattle.alarm_bank.proofs.BankLaws.{counted_length, bank_put, kept_end}
use Rattle.alarm_bank.proofs.bank.Bank.put.Goals as goal

pub put-requires : goal.put-requires
put-requires c =
    let within : c.args.at < length c.self.inside.alarms.items = omega (arith, c.requires, ap (λ (w : PlainBank). length w.alarms) c.self.view_is) in
    rw (c.self.invariant.rows_are, counted_length _ _ c.self.invariant.each) within

pub invariant_of-self : goal.invariant_of-self
invariant_of-self c =
    let within : c.args.at < length c.self.inside.alarms.items = omega (arith, c.requires, ap (λ (w : PlainBank). length w.alarms) c.self.view_is) in
    rw (c.put.ensures, c.code.ensures, c.state.ensures, c.put_end.ensures.shelf) (bank_put _ _ _ _ _ c.self.invariant c.args.at c.args.alarm.now within c.put_end.ensures.in_range c.put_end.ensures.settled)

pub put_end-requires-clause-at : goal.put_end-requires-clause-at
put_end-requires-clause-at c = grind (arith, common_steps)

pub put_end-requires-clause-few : goal.put_end-requires-clause-few
put_end-requires-clause-few c = grind (arith, common_steps)

pub put_end-requires-clause-was : goal.put_end-requires-clause-was
put_end-requires-clause-was c =
    let within : c.args.at < length c.self.inside.alarms.items = omega (arith, c.requires, ap (λ (w : PlainBank). length w.alarms) c.self.view_is) in
    let there : slice_get c.self.inside.alarms.items c.args.at ≡ Some c.index.result.now = slice_get_read c.self.inside.alarms.items c.self.inside.alarms.len c.args.at c.index.result.now c.self.inside.alarms.ok.0 (omega (arith, within, c.self.inside.alarms.ok.0)) c.index.ensures in
    rw c.self.invariant.ends_are (kept_end c.self.inside.alarms.items c.args.at c.index.result.now there)
