use Rattle.std.proofs.Common.{List, ap, sym, ◌∙◌}
use Rattle.alarm_machine.specs.Alarms.{PlainAlarm}
use Rattle.alarm_bank.specs.Moves.{put_all}
use Rattle.engine.proofs.engine.Engine.leaves_alarms.Goals as goal

pub returns : goal.returns
returns c =
    let fits = rw (← c.self.view_is) at c.requires in
    let kept = c.self.inside.state in
    let state_is = c.self.invariant.0.state_is in
    let after = fits.effect_is kept state_is in
    rw (← c.self.view_is) (ap (λ (alarms : List PlainAlarm). put_all alarms c.args.prepared.now.effect.moved) (sym state_is.alarms_are) ∙ after.alarms_are)
