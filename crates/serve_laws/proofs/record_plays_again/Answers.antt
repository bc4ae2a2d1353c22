use Rattle.serve_laws.proofs.Playing.{goes_on}
use Rattle.serve_laws.proofs.record_plays_again.Goals as goal

pub returns : goal.returns
returns c = goes_on
