use Rattle.std.proofs.Common.{◌∙◌}
use Rattle.try_twins.proofs.Kept.{has_still}
use Rattle.try_twins.proofs.rows.gather_levels.Goals as goal

pub loop-words-preserved : goal.loop-words-preserved
loop-words-preserved c =
    let kept = c.in_ok-misfit.ensures in
    record {
      ran = kept.ran;
      cells = has_still _ _ _ kept.values kept.clocks c.loop-words.invariant.cells;
      flags = kept.flags ∙ c.loop-words.invariant.flags;
    }
