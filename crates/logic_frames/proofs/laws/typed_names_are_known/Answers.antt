use Rattle.logic_frames.proofs.Known.{typed_known}
use Rattle.logic_frames.proofs.laws.typed_names_are_known.Goals as goal

pub returns : goal.returns
returns c = typed_known
