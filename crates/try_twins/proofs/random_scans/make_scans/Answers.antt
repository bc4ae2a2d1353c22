use Rattle.std.proofs.Common.{◌∙◌}
use Rattle.try_twins.proofs.Kept.{has_still}
use Rattle.try_twins.proofs.random_scans.make_scans.Goals as goal

pub scan-requires-clause-ran : goal.scan-requires-clause-ran
scan-requires-clause-ran c = has_still _ _ _ c.draw.ensures.ran_values c.draw.ensures.ran_clocks c.loop-made.invariant.ran

pub scan-requires-clause-cells : goal.scan-requires-clause-cells
scan-requires-clause-cells c = has_still _ _ _ c.draw.ensures.values c.draw.ensures.clocks c.loop-made.invariant.cells

pub loop-made-preserved : goal.loop-made-preserved
loop-made-preserved c =
    let drawn = c.draw.ensures in
    let made = c.in_ok-outcome.ensures in
    record {
      ran = made.ran;
      cells = has_still _ _ _ (made.values ∙ drawn.values) (made.clocks ∙ drawn.clocks) c.loop-made.invariant.cells;
      flags = made.flags ∙ drawn.flags ∙ c.loop-made.invariant.flags;
    }
