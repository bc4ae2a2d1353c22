use Rattle.st_tree.proofs.RangeLaws.{value_in_range}
use Rattle.st_tree.proofs.laws.value_stays_in_range.Goals as goal

pub returns : goal.returns
returns g c sorts values within = value_in_range sorts values within
