use Rattle.standing_crew.proofs.gathered.assemble.Goals as goal

pub returns-in-Err : goal.returns-in-Err
returns-in-Err g c = rw (← c.tick_rest.ensures.runs) c.in-Err.ensures
