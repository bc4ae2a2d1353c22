use Rattle.serve_laws.proofs.Playing.{asking_adds_nothing, line_left_out}
use Rattle.serve_laws.proofs.lines_without_event_can_be_left_out.Goals as goal

pub returns : goal.returns
returns c = record { left_out = line_left_out; asks = asking_adds_nothing }
