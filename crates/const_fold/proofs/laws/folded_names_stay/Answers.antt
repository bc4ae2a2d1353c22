use Rattle.const_fold.proofs.NameLaws.{body_names}
use Rattle.const_fold.proofs.laws.folded_names_stay.Goals as goal

pub returns : goal.returns
returns g c = body_names
