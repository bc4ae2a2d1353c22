use Rattle.serve_laws.proofs.Lines.{lines_end}
use Rattle.serve_laws.proofs.lines_end_requests.Goals as goal

pub returns : goal.returns
returns c = lines_end
