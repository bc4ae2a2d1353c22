use Rattle.try_twins.proofs.rows.run_named.Goals as goal

pub split-requires-clause-can : goal.split-requires-clause-can
split-requires-clause-can c = c.in_ok-store.ensures.can c.args.handed.level
