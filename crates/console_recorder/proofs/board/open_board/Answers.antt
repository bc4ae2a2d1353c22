use Rattle.console_recorder.proofs.Steps.{all_open}
use Rattle.console_recorder.proofs.board.open_board.Goals as goal

pub returns : goal.returns
returns g c = all_open c.new.result c.args.plant.now c.in_ok-first.first c.in_ok-first.ensures.0 c.in_ok-first.ensures.1 c.new.ensures
