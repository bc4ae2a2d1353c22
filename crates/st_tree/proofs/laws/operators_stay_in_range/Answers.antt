use Rattle.st_tree.proofs.RangeLaws.{unary_in_range, binary_in_range}
use Rattle.st_tree.proofs.laws.operators_stay_in_range.Goals as goal

pub returns-clause-unary : goal.returns-clause-unary
returns-clause-unary c = unary_in_range

pub returns-clause-binary : goal.returns-clause-binary
returns-clause-binary c = binary_in_range
