use Rattle.std.proofs.lemmas.List.Elements.{All-from_recursion}
use Rattle.plant_types.specs.declared.values.Kind.TheVariants as kind
use Rattle.st_tree.specs.Controls.{control_values}
use Rattle.st_tree.proofs.RangeLaws.{InRange}
use Rattle.st_tree.proofs.ControlRangeLaws.{control_values_in_range}
use Rattle.st_tree.proofs.laws.control_values_stay_in_range.Goals as goal

pub returns : goal.returns
returns c = λ span from to. All-from_recursion (InRange kind.Dint) (control_values span) (control_values_in_range span from to)
