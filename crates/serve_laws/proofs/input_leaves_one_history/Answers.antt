use Rattle.serve_laws.proofs.Playing.{one_history}
use Rattle.serve_laws.proofs.input_leaves_one_history.Goals as goal

pub returns : goal.returns
returns c = one_history
