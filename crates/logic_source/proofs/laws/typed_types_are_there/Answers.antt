use Rattle.logic_source.proofs.Knowns.{typed_types}
use Rattle.logic_source.proofs.laws.typed_types_are_there.Goals as goal

pub returns : goal.returns
returns c = typed_types
