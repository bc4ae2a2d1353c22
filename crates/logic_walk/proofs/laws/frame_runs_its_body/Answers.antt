use Rattle.logic_walk.proofs.Firsts.{frame_is}
use Rattle.logic_walk.proofs.laws.frame_runs_its_body.Goals as goal

pub returns : goal.returns
returns c = λ t globals frames limit k frame base path cells h at. frame_is frames limit k t globals base cells frame path h at
