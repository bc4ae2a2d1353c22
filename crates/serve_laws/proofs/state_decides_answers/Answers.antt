use Rattle.serve_laws.proofs.Playing.{played_alike}
use Rattle.serve_laws.proofs.state_decides_answers.Goals as goal

pub returns : goal.returns
returns c = played_alike
