use Rattle.st_tree.proofs.ControlLaws.{control_values_count, only_control_values}
use Rattle.st_tree.proofs.laws.control_values_count_to_bound.Goals as goal

pub returns-clause-are : goal.returns-clause-are
returns-clause-are c = control_values_count

pub returns-clause-only : goal.returns-clause-only
returns-clause-only c = only_control_values
