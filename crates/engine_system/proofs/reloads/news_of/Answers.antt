use Rattle.std.proofs.Common.{List, ◌++◌, map, drop, ◌+◌, ap, sym, ◌∙◌}
use Rattle.alarm_bank.specs.declared.rows.NewAlarm.{NewAlarm}
use Rattle.engine_system.specs.Reloads.{new_of}
use Rattle.engine_system.proofs.FoundReload.{made_next}
use Rattle.engine_system.proofs.reloads.news_of.Goals as goal

pub loop-alarm-preserved : goal.loop-alarm-preserved
loop-alarm-preserved c =
    let f = new_of c.args.old.now in
    let rows = c.args.new.now.alarms in
    let n = c.loop-alarm.alarm in
    ap (λ (l : List NewAlarm). l ++ map f (drop (n + 1) rows)) c.in_ok-push.ensures.items
    ∙ sym (made_next f rows c.loop-alarm.news.items n c.new_of.result c.new_of.ensures)
    ∙ c.loop-alarm.invariant
