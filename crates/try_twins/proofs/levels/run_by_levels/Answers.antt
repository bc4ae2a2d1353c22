use Rattle.try_twins.proofs.levels.run_by_levels.Goals as goal

pub run_levels-requires-clause-can : goal.run_levels-requires-clause-can
run_levels-requires-clause-can c = rw c.lend.ensures c.in-Ok.ensures.can
