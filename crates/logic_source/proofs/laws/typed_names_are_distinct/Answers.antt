use Rattle.logic_source.proofs.Distinct.{typed_distinct}
use Rattle.logic_source.proofs.laws.typed_names_are_distinct.Goals as goal

pub returns : goal.returns
returns c = typed_distinct
