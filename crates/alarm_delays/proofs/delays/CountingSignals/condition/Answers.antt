use Rattle.std.proofs.Common.{Some, None, ap, sym, ◌∙◌}
use Rattle.std.proofs.lemmas.Option.{slice_get-get_or}
use Rattle.alarm_delays.proofs.DelayLaws.{each_within, each_at}
use Rattle.alarm_delays.proofs.delays.CountingSignals.condition.Goals as goal

pub condition-requires : goal.condition-requires
condition-requires g c = (each_within _ _ _ _ c.args.alarm c.requires).0

pub counts-requires : goal.counts-requires
counts-requires g c = (each_within _ _ _ _ c.args.alarm c.requires).1

pub returns : goal.returns
returns g c =
    let within = each_within _ _ _ _ c.args.alarm c.requires in
    let d = c.args.self.now.delays.now in
    let d_at = slice_get-get_or d.delays c.args.alarm 0 within.1 in
    let r_at = slice_get-get_or d.since c.args.alarm None within.2 in
    each_at _ c.args.self.now.moment d.delays d.since c.args.alarm _ _ _ c.condition.ensures d_at r_at ∙ ap Some (sym (c.counts.ensures _ _ d_at r_at))
