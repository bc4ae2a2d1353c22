use Rattle.logic_source.proofs.Belows.{typed_below}
use Rattle.logic_source.proofs.laws.order_is_of_source.Goals as goal

pub returns : goal.returns
returns c = typed_below
