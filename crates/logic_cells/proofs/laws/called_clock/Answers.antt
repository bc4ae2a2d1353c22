use Rattle.logic_cells.proofs.Clocks.{clock_steps}
use Rattle.logic_cells.proofs.laws.called_clock.Goals as goal

pub returns : goal.returns
returns c = clock_steps
