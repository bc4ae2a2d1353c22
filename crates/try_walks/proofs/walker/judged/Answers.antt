use Rattle.try_walks.proofs.walker.judged.Goals as goal

pub made_of-requires-clause-sound : goal.made_of-requires-clause-sound
made_of-requires-clause-sound c = c.requires.sound c.in_ok-_costs.ensures.kept
