use Rattle.st_sources.proofs.Spelled.{with_tokens}
use Rattle.st_sources.proofs.reading.unit.Goals as goal

pub returns : goal.returns
returns c = with_tokens _ _ _ _ _ c.as_slice.ensures.value c.in-Ok.ensures c.parsed.ensures
