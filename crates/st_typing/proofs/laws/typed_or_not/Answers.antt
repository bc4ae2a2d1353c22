use Rattle.st_typing.proofs.Decided.{typed_or_not}
use Rattle.st_typing.proofs.laws.typed_or_not.Goals as goal

pub returns : goal.returns
returns c = typed_or_not
