use Rattle.std.proofs.Common.{ap, ◌∙◌, sym, arith}
use Rattle.std.specs.Prelude.{slice_get}
use Rattle.std.specs.Option.{option_map}
use Rattle.alarm_machine.specs.Alarms.{PlainAlarm}
use Rattle.engine_system.proofs.Systems.{kept_alarms}
use Rattle.engine.proofs.engine.Engine.state.Goals as goal

pub alarm_state-requires : goal.alarm_state-requires
alarm_state-requires c =
    let each = kept_alarms c.self.inside.began c.self.inside.history c.self.inside.state c.self.invariant.0.state_is in
    let there = rw (← c.self.view_is) at c.requires in
    omega (arith, each, there)

pub returns : goal.returns
returns c = rw (← c.self.view_is) (ap (λ alarms. option_map (λ (a : PlainAlarm). a.state) (slice_get alarms c.args.alarm)) (sym c.self.invariant.0.state_is.alarms_are) ∙ c.alarm_state.ensures)
