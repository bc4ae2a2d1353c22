use Rattle.logic_frames.proofs.Fitting.{body_is}
use Rattle.logic_frames.proofs.laws.fitting_names_are_known.Goals as goal

pub returns : goal.returns
returns g c = body_is
