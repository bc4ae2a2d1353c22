use Rattle.st_tree.proofs.ConstantLaws.{constant_of_is_value_of}
use Rattle.st_tree.proofs.laws.constant_of_is_value_of.Goals as goal

pub returns : goal.returns
returns g c = λ e outcome is values. constant_of_is_value_of values e outcome is
