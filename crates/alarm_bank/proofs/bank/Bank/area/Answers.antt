use Rattle.std.proofs.Common.{◌<◌, ◌∙◌, List, length, slice_get, arith, ap, sym}
use Rattle.std.specs.Option.{option_map}
use Rattle.alarm_bank.specs.declared.rows.Site.{Site}
use Rattle.alarm_counts.specs.declared.counted.Counted.{Counted}
use Rattle.alarm_bank.specs.Banks.{PlainBank}
use Rattle.alarm_bank.proofs.BankLaws.{counted_length, counted_area}
use Rattle.alarm_bank.proofs.bank.Bank.area.Goals as goal

pub area-requires : goal.area-requires
area-requires c =
    let within : c.args.alarm < length c.self.inside.alarms.items = omega (arith, c.requires, ap (λ (w : PlainBank). length w.alarms) c.self.view_is) in
    rw (c.self.invariant.rows_are, counted_length _ _ c.self.invariant.each) within

pub returns : goal.returns
returns c =
    let n = c.args.alarm in
    let sites = c.self.inside.sites.items in
    ap (λ (w : PlainBank). option_map (λ (site : Site). site.area) (slice_get w.sites n)) (sym c.self.view_is)
    ∙ sym (counted_area sites c.self.inside.alarms.items n c.self.invariant.each)
    ∙ ap (λ (rows : List Counted). option_map (λ (row : Counted). row.area) (slice_get rows n)) (sym c.self.invariant.rows_are)
    ∙ c.area.ensures
