use Rattle.const_fold.proofs.OutcomeLaws.{folded_runs}
use Rattle.const_fold.proofs.laws.folded_body_does_same.Goals as goal

pub returns : goal.returns
returns g c = folded_runs
