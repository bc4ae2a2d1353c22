use Rattle.std.proofs.Common.{arith, ap, ◌∙◌}
use Rattle.alarm_delays.specs.Delays.{have_none}
use Rattle.alarm_delays.proofs.DelayLaws.{delays_none}
use Rattle.alarm_delays.proofs.delays.Delays.new.Goals as goal

pub invariant_of-result : goal.invariant_of-result
invariant_of-result c =
    let delays = c.args.delays in
    rw (c.in_ok-since.ensures, c.in_ok-due.ensures) (delays_none delays.items c.len.result c.len-2.result c.have_none-is_plain.result (omega (arith, delays.ok.0, c.len.ensures)) (omega (arith, delays.ok.0, c.len-2.ensures)) c.requires (c.have_none-is_plain.ensures ∙ ap have_none c.as_slice.ensures.value))
