use Rattle.engine.proofs.Fitting.{opening_engine}
use Rattle.engine.proofs.engine.opening.Goals as goal

pub returns : goal.returns
returns c = opening_engine _ _ c.in_ok-state.ensures.is_plant c.in_ok-state.ensures.state
