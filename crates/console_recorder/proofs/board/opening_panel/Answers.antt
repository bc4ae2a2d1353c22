use Rattle.std.proofs.Common.{◌≡◌, length, ap, arith}
use Rattle.std.proofs.lemmas.List.{length-map}
use Rattle.alarm_bank.specs.Banks.{PlainBank}
use Rattle.engine.specs.System.{opening_alarm, opening_system}
use Rattle.console_recorder.proofs.board.opening_panel.Goals as goal

pub of-requires : goal.of-requires
of-requires c =
    let plant = c.args.plant.now in
    let is : length c.in_ok-bank.bank.alarms ≡ length (opening_system plant).alarms = ap (λ (b : PlainBank). length b.alarms) c.in_ok-bank.ensures in
    let many = length-map plant.alarms opening_alarm in
    let few = c.alarms.ensures.plant.few in
    record { within = omega (arith, is, many, few) }
