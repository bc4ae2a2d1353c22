use Rattle.std.proofs.Common.{◌+◌, drop, slice_index_or, arith, ap, sym, ◌∙◌}
use Rattle.std.proofs.lemmas.List.{drop_more}
use Rattle.alarm_delays.specs.Delays.{have_none}
use Rattle.alarm_delays.proofs.DelayLaws.{none_zero}
use Rattle.alarm_delays.proofs.delays.have_none.Goals as goal

pub loop-delay-preserved : goal.loop-delay-preserved
loop-delay-preserved c =
    let i = c.loop-delay.delay-index in
    let ds = c.args.delays.now in
    sym (none_zero (slice_index_or ds i 0) (drop (i + 1) ds) (omega (arith, c.if-delay-gt0.false))) ∙ ap have_none (sym (drop_more ds i 0 c.loop-delay-test.true)) ∙ c.loop-delay.invariant
