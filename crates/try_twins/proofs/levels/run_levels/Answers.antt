use Rattle.std.proofs.Common.{◌+◌}
use Rattle.level_jobs.proofs.Again.{can_again}
use Rattle.try_twins.proofs.levels.run_levels.Goals as goal

pub split-requires-clause-can : goal.split-requires-clause-can
split-requires-clause-can c =
    let l = c.args.levelled.now in
    let level = c.loop-below.below + 1 in
    let kept = c.loop-below.invariant in
    can_again l.parts l.levels level c.args.store.now c.loop-below.store (record { values = kept.values; clocks = kept.clocks }) kept.flags (c.requires.can level)
