use Rattle.level_jobs.proofs.Turns.{as_in_order}
use Rattle.level_jobs.proofs.laws.gathered_levels_run_as_in_order.Goals as goal

pub returns : goal.returns
returns c = λ paths globals codes parts levels are is own start end faults many gathers. as_in_order paths codes parts levels are start globals is own end faults many gathers
