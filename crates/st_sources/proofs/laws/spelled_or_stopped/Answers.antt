-- Texts have units or a first fault.
use Rattle.st_sources.proofs.Decided.{decided}
use Rattle.st_sources.proofs.laws.spelled_or_stopped.Goals as goal

pub returns : goal.returns
returns c = decided
