use Rattle.logic_source.proofs.Members.{clock_at}
use Rattle.logic_source.proofs.laws.clock_stands.Goals as goal

pub returns : goal.returns
returns c = clock_at
