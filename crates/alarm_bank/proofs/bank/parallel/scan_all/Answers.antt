use Rattle.std.proofs.Common.{◌≡◌, ◌<◌, false, length, slice_index_or, ap, ◌∙◌, sym, arith}
use Rattle.std.proofs.lemmas.List.{same_lists}
use Rattle.alarm_machine.specs.Alarms.{PlainAlarm, after_scan}
use Rattle.alarm_bank.proofs.BankLaws.{scan_each_length, scan_each_at}
use Rattle.alarm_bank.proofs.bank.parallel.scan_all.Goals as goal

pub returns : goal.returns
returns g c =
    let len : length c.par_for_each_mut.new.s ≡ length c.args.alarms.now = c.par_for_each_mut.auto.s in
    same_lists _ _ (len ∙ sym (scan_each_length c.args.conds.now c.args.sups.now c.args.moment c.args.alarms.now c.requires.conds c.requires.sups)) (λ k d h.
    let lt : k < length c.args.alarms.now = omega (arith, h, len) in
    let at = (c.par_for_each_mut.ensures k d lt).1 in
    sym at.left ∙ at.call ∙ ap (λ (x : PlainAlarm). after_scan (slice_index_or c.args.conds.now k false) (slice_index_or c.args.sups.now k false) c.args.moment x) at.argument_is
    ∙ scan_each_at c.args.conds.now c.args.sups.now c.args.moment c.args.alarms.now k d c.requires.conds c.requires.sups lt)
